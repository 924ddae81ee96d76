use Rattle.std.proofs.Common.{sym, subst, ◌∙◌, true≢false}
use Rattle.decision_record.specs.History.{Stands}
use Rattle.decision_record.proofs.RecordLemmas.{all_more, all_seen, element_is}
use Rattle.decision_record.proofs.record.Record.first_astray.Goals as goal

pub loop-place-preserved : goal.loop-place-preserved
loop-place-preserved c =
    all_more (Stands c.args.self.now.entries) c.args.receipts.now c.loop-place.place
    c.index-receipts-place.result c.loop-place-test.true c.index-receipts-place.is
    c.loop-place.invariant
    (c.stands.ensures.0 c.if-not-stands.false)

pub returns-clause-none : goal.returns-clause-none
returns-clause-none c =
    all_seen (Stands c.args.self.now.entries) c.args.receipts.now c.loop-place.place
    c.loop-place-test.false
    c.loop-place.invariant

pub returns-then-not-stands-clause-first : goal.returns-then-not-stands-clause-first
returns-then-not-stands-clause-first c = (
  c.loop-place-test.true,
  c.loop-place.invariant,
  λ receipt there stood.
      let same = element_is c.args.receipts.now c.loop-place.place c.index-receipts-place.result
      receipt c.index-receipts-place.is there in
      true≢false (sym (c.stands.ensures.1 (subst (Stands c.args.self.now.entries) same stood))
      ∙ c.if-not-stands.true),
)
