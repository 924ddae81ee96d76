use Rattle.std.proofs.Common.{◌==◌, ap, sym, ◌∙◌}
use Rattle.compiler.specs.TablesIndex.{is_about, is_place}
use Rattle.compiler.proofs.GatewayLemmas.{about_none, about_some}
use Rattle.compiler.proofs.priorities.place_of.Goals as goal

pub returns-in_err-place : goal.returns-in_err-place
returns-in_err-place c = λ place row at.
    let zones = c.args.zones.now.entries in
    ap (is_about zones row) c.in_ok-row.ensures
    ∙ about_none zones c.args.rows.now.entries (c.in_ok-row.row.0.now, c.in_ok-row.row.1.now)
    (sym c.get_index_of.ensures.index ∙ c.in_err-place.was) place row at
    ∙ ap (λ found. is_place found place) (sym c.from_residual-in_err-place.ensures)

pub returns-then-eq : goal.returns-then-eq
returns-then-eq c = λ place row at.
    let zones = c.args.zones.now.entries in
    ap (is_about zones row) c.in_ok-row.ensures
    ∙ about_some zones c.args.rows.now.entries (c.in_ok-row.row.0.now, c.in_ok-row.row.1.now)
    c.in_ok-place.place
    c.in_ok-picked.field-0-0.now c.in_ok-picked.picked.now _ c.get_index_of.ensures.unique
    (sym c.get_index_of.ensures.index ∙ c.in_ok-place.was)
    (sym c.in_ok-picked.ensures.entry)
    (ap (λ n. n == c.in_ok-picked.picked.now) (sym c.number_of.ensures)
    ∙ sym c.eq.ensures ∙ c.if-eq.true) place row at

pub returns-else-eq : goal.returns-else-eq
returns-else-eq c = λ place row at.
    let zones = c.args.zones.now.entries in
    ap (is_about zones row) c.in_ok-row.ensures
    ∙ about_some zones c.args.rows.now.entries (c.in_ok-row.row.0.now, c.in_ok-row.row.1.now)
    c.in_ok-place.place
    c.in_ok-picked.field-0-0.now c.in_ok-picked.picked.now _ c.get_index_of.ensures.unique
    (sym c.get_index_of.ensures.index ∙ c.in_ok-place.was)
    (sym c.in_ok-picked.ensures.entry)
    (ap (λ n. n == c.in_ok-picked.picked.now) (sym c.number_of.ensures)
    ∙ sym c.eq.ensures ∙ c.if-eq.false) place row at
