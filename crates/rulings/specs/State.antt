-- The state of a running core, except its record.
use Rattle.std.specs.Prelude.{ℕ, ◌-◌, List, [], length}
use Rattle.gk_commands.specs.declared.commands.Command.{Command}
use Rattle.bandwidth.specs.declared.open_call.OpenCall.{OpenCall}
use Rattle.rulings.specs.declared.limits.Limits.{Limits}
use Rattle.registry.specs.Endpoint.{EndpointParts}

-- the commands in force and the number of their version, the endpoints in order of registration,
-- the open calls in order of number, how many verdicts were recorded, and the limits
pub record State : Type 0 where
  pub commands : List Command
  pub version : ℕ
  pub endpoints : List EndpointParts
  pub calls : List OpenCall
  pub records : ℕ
  pub limits : Limits

-- version 1, and nothing else
abbrev pub opening_of : List Command → Limits → State
opening_of commands limits = record {
  commands = commands;
  version = 1;
  endpoints = [];
  calls = [];
  records = 0;
  limits = limits;
}

-- a state without its commands
pub record MachineParts : Type 0 where
  pub version : ℕ
  pub endpoints : List EndpointParts
  pub calls : List OpenCall
  pub records : ℕ
  pub limits : Limits

-- the state that has these commands in force
abbrev pub under : List Command → MachineParts → State
under commands m = record {
  commands = commands;
  version = m.version;
  endpoints = m.endpoints;
  calls = m.calls;
  records = m.records;
  limits = m.limits;
}

-- a state of which only what does not depend on the commands in force is asked
abbrev pub bare : MachineParts → State
bare m = under [] m

-- that of an opening state
abbrev pub idle : Limits → MachineParts
idle limits = record { version = 1; endpoints = []; calls = []; records = 0; limits = limits }

-- the places of the record that are neither taken by an entry nor kept by an open call for the
-- entry of its release
abbrev pub free_places : State → ℕ
free_places s = s.limits.records - s.records - length s.calls
