-- A worked row of the sums, computed on the definitions alone.
use Rattle.std.specs.Prelude.{◌≡◌, ℕ, List, [], Some, None, false, codes}
use Rattle.bandwidth.specs.declared.open_call.OpenCall.{OpenCall}
use Rattle.bandwidth.specs.Calls.{with_call, without_call}
use Rattle.bandwidth.specs.Use.{total_of, interzone_of}

-- a call of the greatest bandwidth within the zone c
abbrev pub large_call : ℕ → OpenCall
large_call number = record {
  number = number;
  owner = codes "t";
  source = Some (codes "c");
  target = codes "c";
  remote = false;
  units = 4294967295;
  answerer = None;
}

-- three such calls, opened one after another
abbrev pub three_calls : List OpenCall
three_calls = with_call (with_call (with_call [] (large_call 2)) (large_call 1)) (large_call 3)

-- they count in the total of the zone, not between zones, and not at all once they are closed
pub record LargeCalls : Type 0 where
  pub total : total_of three_calls (codes "c") ≡ 12884901885
  pub interzone : interzone_of three_calls (codes "c") ≡ 0
  pub closed : total_of (without_call (without_call (without_call three_calls 1) 2) 3) (codes "c") ≡ 0
