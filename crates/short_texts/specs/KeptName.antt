-- Names in 24 bytes, for those that are kept in great numbers.
use Rattle.std.specs.Prelude.{ℕ, List}
use Rattle.short_texts.specs.declared.kept_name.HeldName.{HeldName}
use Rattle.short_texts.specs.declared.kept_name.HeldName.TheVariants.{Short, Long}

-- the name that is held
abbrev pub held_name : HeldName → List ℕ
held_name (Short short) = short
held_name (Long name) = name.value
