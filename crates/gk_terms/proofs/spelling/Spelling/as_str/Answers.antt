use Rattle.gk_terms.proofs.Visible.{IsUtf8-from_visible}
use Rattle.gk_terms.proofs.spelling.Spelling.as_str.Goals as goal

pub from_utf8_unchecked-requires : goal.from_utf8_unchecked-requires
from_utf8_unchecked-requires g c =
    rw c.as_bytes.ensures.spells (IsUtf8-from_visible _ c.as_bytes.ensures.visible)
