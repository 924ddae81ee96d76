use Rattle.std.proofs.Common.{◌∙◌, ◌+◌, ◌++◌, inr, nat_le, length, ap, sym}
use Rattle.gk_terms.specs.Dialled.{dialled_of}
use Rattle.plan_difference.specs.Walk.{starred, text_of}
use Rattle.plan_difference.proofs.BlockedLemmas.{dialled_is, is_too_long, not_dialled}
use Rattle.plan_difference.proofs.reach.reach.Goals as goal

pub returns-then-not-fits : goal.returns-then-not-fits
returns-then-not-fits c =
    inr (is_too_long c.args.old.now.commands c.args.new.now.commands c.args.head.now
    c.args.stem.now
    (ap (λ n. nat_le (n + length c.args.stem.now + 0) 32) (sym c.found_length.ensures)
    ∙ sym c.fits.ensures ∙ c.if-not-fits.true))

pub reach_in-requires : goal.reach_in-requires
reach_in-requires c =
    dialled_is (text_of c.args.head.now ++ c.args.stem.now) c.in-Some.digits
    (c.in-Some.ensures
    ∙ ap (λ text. dialled_of (starred (text ++ c.args.stem.now) 0)) c.text_of.ensures)

pub returns-in-None : goal.returns-in-None
returns-in-None c =
    not_dialled c.args.old.now.commands c.args.new.now.commands c.args.head.now c.args.stem.now
    c.requires.some
    (sym (c.in-None.ensures
    ∙ ap (λ text. dialled_of (starred (text ++ c.args.stem.now) 0)) c.text_of.ensures))
