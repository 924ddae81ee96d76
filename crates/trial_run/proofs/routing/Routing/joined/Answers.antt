use Rattle.std.proofs.Common.{rules, ◌≤◌, ◌*◌, ◌∷◌, [], length, length-append, take, sym, subst, arith}
use Rattle.std.proofs.lemmas.Iterator.Adapters.{YieldsList-from_vec}
use Rattle.std.proofs.lemmas.Iterator.Consumers.{YieldsList-turn}
use Rattle.call_rows.specs.Rows.{admissions_of}
use Rattle.trial_run.specs.Chunks.{chunk_of}
use Rattle.trial_run.specs.Tried.{AreJoined, AreTried}
use Rattle.trial_run.proofs.JoinLemmas.{join_more, same_within}
use Rattle.trial_run.proofs.routing.Routing.joined.Goals as goal

pub add-requires : goal.add-requires
add-requires g c =
    let work = c.args.self.now in
    let commands = work.tables.now.commands in
    let kept = work.registry.now.endpoints in
    let all = admissions_of work.snapshot.now.rows in
    let pieces = c.args.pieces.items in
    let front = c.loop-piece.yielded in
    let list =
    YieldsList-from_vec {s = c.into_iter-piece-iterator.result} pieces (search rules)
    (search rules) in
    let next =
    YieldsList-turn list front c.loop-piece.piece-iterator c.loop-piece.yielded_by c.next.result
    c.next.new.self c.in-Some.piece c.in-Some.is c.next.ensures.steps in
    let asked = c.requires.each (length front) c.in-Some.piece next.0 in
    let told : AreTried commands kept (chunk_of work.size (length front) all) c.in-Ok.chunk =
    rw (sym next.1, c.in-Ok.is) at asked in
    let few : length all ≤ 1000000 =
    omega (arith, c.admission_count.ensures.value, c.admission_count.ensures.few) in
    record {
      few = same_within commands kept all work.size (length front) c.loop-piece.tried c.in-Ok.chunk
          c.loop-piece.invariant.2 told few;
    }

pub loop-piece-preserved : goal.loop-piece-preserved
loop-piece-preserved g c =
    let work = c.args.self.now in
    let commands = work.tables.now.commands in
    let kept = work.registry.now.endpoints in
    let all = admissions_of work.snapshot.now.rows in
    let pieces = c.args.pieces.items in
    let front = c.loop-piece.yielded in
    let list =
    YieldsList-from_vec {s = c.into_iter-piece-iterator.result} pieces (search rules)
    (search rules) in
    let next =
    YieldsList-turn list front c.loop-piece.piece-iterator c.loop-piece.yielded_by c.next.result
    c.next.new.self c.in-Some.piece c.in-Some.is c.next.ensures.steps in
    let asked = c.requires.each (length front) c.in-Some.piece next.0 in
    let told : AreTried commands kept (chunk_of work.size (length front) all) c.in-Ok.chunk =
    rw (sym next.1, c.in-Ok.is) at asked in
    let more = length-append front (c.in-Some.piece ∷ []) in (
      tt,
      tt,
      subst (λ n. AreJoined commands kept (take (n * work.size) all) c.add.new.self) (sym more)
          (join_more commands kept all work.size (length front) c.loop-piece.tried c.add.new.self
          c.in-Ok.chunk c.loop-piece.invariant.2 told c.in_ok-add-in-Ok.ensures.rows
          c.in_ok-add-in-Ok.ensures.touched c.in_ok-add-in-Ok.ensures.same),
    )
