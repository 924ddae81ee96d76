use Rattle.std.proofs.Common.{◌∙◌, ap, sym, ◌+◌, length, take}
use Rattle.std.specs.Result.{result_ok}
use Rattle.gk_terms.specs.Dialled.{dialled_of}
use Rattle.plan_difference.proofs.TextLemmas.{front_is, at_most, ok_of}
use Rattle.plan_difference.proofs.texts.starred.Goals as goal

pub returns : goal.returns
returns c =
    let head = c.args.head.now in
    let stem = c.args.stem.now in
    let size = length head + length stem + c.args.stars in
    c.ok.ensures.value ∙ ap result_ok c.read.ensures ∙ ok_of _ _
    ∙ ap dialled_of (ap (take size) c.spelled-text.ensures
    ∙ front_is head stem c.args.stars
    (at_most size 32 (sym c.fits.ensures ∙ c.if-not-fits.false)))
