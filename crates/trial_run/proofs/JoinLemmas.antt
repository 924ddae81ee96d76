-- What workers made, put together.
use Rattle.std.proofs.Common.{◌≡◌, ◌≤◌, ◌+◌, ◌-◌, ◌*◌, ◌++◌, ℕ, Bool, List, length, length-append, take, map, ap, sym, ◌∙◌, arith}
use Rattle.std.specs.Prelude.{filter, vec_items}
use Rattle.std.specs.List.{flat_map}
use Rattle.std.proofs.lemmas.List.{length-map, length-take}
use Rattle.std.proofs.lemmas.List.Elements.{filter-append}
use Rattle.gk_commands.specs.declared.commands.Command.{Command}
use Rattle.registry.specs.Endpoint.{EndpointParts}
use Rattle.call_rows.specs.declared.rows.NumberedAdmission.{NumberedAdmission}
use Rattle.trial_run.specs.declared.report_rows.Counts.{Counts}
use Rattle.trial_run.specs.declared.report_rows.ReportRow.{ReportRow}
use Rattle.trial_run.specs.declared.tried_chunks.TriedChunk.{TriedChunk}
use Rattle.trial_run.specs.declared.tried_chunks.TriedRows.{TriedRows}
use Rattle.trial_run.specs.Answers.{is_same, row_among}
use Rattle.trial_run.specs.Chunks.{chunk_of}
use Rattle.trial_run.specs.Numbers.{touched_among}
use Rattle.trial_run.specs.Report.{changed_among, counts_of, same_among}
use Rattle.trial_run.specs.Tried.{AreJoined, AreTried, tried_rows}
use Rattle.trial_run.proofs.ChunkLemmas.{map_chunk}
use Rattle.trial_run.proofs.ReportLemmas.{counted}

-- ---- counts
same_append : (xs ys : List ReportRow) → same_among (xs ++ ys) ≡ same_among xs + same_among ys
same_append xs ys =
    let same : ReportRow → Bool = λ row. is_same row.verdict in
    ap length (filter-append same xs ys) ∙ length-append (filter same xs) (filter same ys)

pub same_few : (rows : List ReportRow) → same_among rows ≤ length rows
same_few rows = omega (arith, counted rows)

-- the counts of rows of which so many are the same
abbrev counts : ℕ → ℕ → ℕ → Counts
counts rows same changed = record { rows = rows; same = same; changed = changed }

pub counts_are : (rows : List ReportRow) (n same : ℕ) → n ≡ length rows → same ≡ same_among rows
    → counts n same (n - same) ≡ counts_of rows
counts_are rows n same all is =
    let rest : n - same ≡ changed_among rows = omega (arith, all, is, counted rows) in
    ap (λ x. counts n same x) rest ∙ ap (λ x. counts x same (changed_among rows)) all
    ∙ ap (λ x. counts (length rows) x (changed_among rows)) is

-- ---- one chunk more
pub join_more : (commands : List Command) (kept : List EndpointParts)
    (all : List NumberedAdmission) (size n : ℕ) (old new : TriedRows) (chunk : TriedChunk)
    → AreJoined commands kept (take (n * size) all) old
    → AreTried commands kept (chunk_of size n all) chunk
    → flat_map vec_items new.rows.items ≡ flat_map vec_items old.rows.items ++ chunk.rows.items
    → new.touched.items ≡ old.touched.items ++ chunk.touched.items
    → new.same ≡ old.same + chunk.same
    → AreJoined commands kept (take ((n + 1) * size) all) new
join_more commands kept all size n old new chunk was told rows touched same =
    let row = row_among commands kept in
    let touches : NumberedAdmission → _ = λ a. touched_among commands kept a.asked in
    let front = tried_rows commands kept (take (n * size) all) in
    let more = tried_rows commands kept (chunk_of size n all) in
    let whole = map_chunk row size n all in (
      rows ∙ ap (λ l. l ++ chunk.rows.items) was.0 ∙ ap (λ l. front ++ l) told.0 ∙ sym whole,
      touched ∙ ap (λ l. l ++ chunk.touched.items) was.1
          ∙ ap (λ l. map touches (take (n * size) all) ++ l) told.1
          ∙ sym (map_chunk touches size n all),
      same ∙ ap (λ x. x + chunk.same) was.2 ∙ ap (λ x. same_among front + x) told.2
          ∙ sym (same_append front more) ∙ ap same_among (sym whole),
    )

pub same_within : (commands : List Command) (kept : List EndpointParts)
    (all : List NumberedAdmission) (size n : ℕ) (old : TriedRows) (chunk : TriedChunk)
    → AreJoined commands kept (take (n * size) all) old
    → AreTried commands kept (chunk_of size n all) chunk
    → length all ≤ 1000000
    → old.same + chunk.same ≤ 1000000
same_within commands kept all size n old chunk was told few =
    let row = row_among commands kept in
    let front = take (n * size) all in
    let next = take ((n + 1) * size) all in
    let more = chunk_of size n all in
    let sums : same_among (map row front) + same_among (map row more) ≡ same_among (map row next) =
    sym (same_append (map row front) (map row more))
    ∙ ap same_among (sym (map_chunk row size n all)) in
    let low = same_few (map row next) in
    let long = length-map next row in
    let short = length-take ((n + 1) * size) all in
    omega (arith, was.2, told.2, sums, low, long, short, few)
