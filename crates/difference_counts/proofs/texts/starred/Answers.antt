use Rattle.std.proofs.Common.{sym, subst, ◌∙◌}
use Rattle.gk_terms.specs.Dialled.{IsDialled}
use Rattle.difference_counts.proofs.FrontLemmas.{written_is, starred_dialled}
use Rattle.difference_counts.proofs.texts.starred.Goals as goal

pub read-requires : goal.read-requires
read-requires c =
    subst IsDialled
    (sym (written_is c.args.front.now c.args.stars c.requires c.as_bytes-front.result.now
    c.write_front.new.target c.as_bytes-front.ensures.spells c.write_front.ensures))
    (starred_dialled c.args.front.now c.args.stars c.requires
    c.as_bytes-front.ensures.dialled)

pub returns : goal.returns
returns c =
    c.read.ensures
    ∙ written_is c.args.front.now c.args.stars c.requires c.as_bytes-front.result.now
    c.write_front.new.target c.as_bytes-front.ensures.spells c.write_front.ensures
