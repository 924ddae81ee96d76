use Rattle.std.proofs.Common.{◌≡◌, ◌∙◌, ◌++◌, ◌∷◌, ◌&&◌, [], ap, subst}
use Rattle.std.specs.Prelude.{OnOk}
use Rattle.csv.specs.Writing.{default_writer, row_text}
use Rattle.plan_difference.specs.Entries.{group_of}
use Rattle.difference_report.specs.Groups.{is_own}
use Rattle.difference_report.specs.PlanWords.{has_same_words}
use Rattle.difference_report.specs.Rows.{gateways_field, technology_field}
use Rattle.difference_report.proofs.rows.add_set_fields.Goals as goal

pub returns : goal.returns
returns c =
    let own : c.is_own-own.result ≡ is_own (group_of c.args.set.now) =
    c.is_own-own.ensures ∙ ap is_own c.group.ensures in
    let other = c.in_ok-is_other.ensures
    ∙ ap (λ o. c.args.has_changed && has_same_words o c.args.old.now c.args.new.now) own in
    let first = c.as_slice.ensures.value ∙ c.in_ok-texts.ensures.technologies in
    let second = c.as_slice-2.ensures.value ∙ c.in_ok-texts.ensures.shown in
    let old_row = c.as_slice-3.ensures.value ∙ c.in_ok-texts.ensures.old_row in
    let old_address = c.as_slice-4.ensures.value ∙ c.in_ok-texts.ensures.old_address in
    let old_technology = c.technology_field.ensures
    ∙ ap (λ o. technology_field o c.args.old.now.technology) own in
    let new_row = c.as_slice-5.ensures.value ∙ c.in_ok-texts.ensures.new_row in
    let new_address = c.as_slice-6.ensures.value ∙ c.in_ok-texts.ensures.new_address in
    let new_technology = c.technology_field-2.ensures
    ∙ ap (λ o. technology_field o c.args.new.now.technology) own in
    let last = c.gateways_field.ensures ∙ ap gateways_field other in
    let number = c.as_bytes.ensures.value ∙ c.format.ensures.text in
    subst (λ fields. OnOk c.add.result (c.add.new.self
    ≡ c.args.rows.now ++ row_text default_writer fields))
    (λ i. first i ∷ second i ∷ c.change_field.ensures i ∷ old_row i ∷ c.kind_field.ensures i
    ∷ c.zone_field.ensures i ∷ old_address i ∷ old_technology i ∷ new_row i
    ∷ c.kind_field-2.ensures i ∷ c.zone_field-2.ensures i ∷ new_address i ∷ new_technology i
    ∷ last i ∷ number i ∷ []) c.add.ensures
