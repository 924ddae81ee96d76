use Rattle.std.proofs.Common.{◌≡◌, take}
use Rattle.compiler.specs.TablesIndex.{places_of}
use Rattle.compiler.proofs.rows.places_of.Given as goal

abbrev pub invariant-loop-place : goal.invariant-loop-place
invariant-loop-place l = l.places.items ≡ places_of (take l.place l.rows.entries)
