-- The figures that the definitions use, as the documents state them.
use Rattle.std.specs.Prelude.{◌≡◌}
use Rattle.gk_terms.specs.declared.limits.TheConstants.{MOST_LINE_BYTES, MOST_LINES, MOST_ZONES, MOST_ALIASES, MOST_TECHNOLOGIES, MOST_SEQUENCE, MOST_NAME_BYTES, MOST_DIALLED, MOST_TECHNOLOGY}
use Rattle.gk_commands.specs.declared.numbers.TheConstants.{MOST_KBPS, MOST_SESSION_KBPS}
use Rattle.gk_commands.specs.declared.numbers.TheConstants.{DEFAULT_RAS_PORT, DEFAULT_COST, DEFAULT_PRIORITY}
use Rattle.compiler.specs.declared.plans.TheConstants.{DEFAULT_GATEWAY_PRIORITY}
use Rattle.gk_protocol.specs.declared.request_fields.TheConstants.{SIGNALLING_PORT}

pub record AreStated : Type 0 where
  -- of texts, in bytes or characters
  pub line_bytes : MOST_LINE_BYTES ≡ 512
  pub name_bytes : MOST_NAME_BYTES ≡ 128
  pub dialled : MOST_DIALLED ≡ 32
  pub technology : MOST_TECHNOLOGY ≡ 11
  -- of a configuration
  pub lines : MOST_LINES ≡ 20000
  pub zones : MOST_ZONES ≡ 1024
  -- of an endpoint, and of a request
  pub aliases : MOST_ALIASES ≡ 16
  pub technologies : MOST_TECHNOLOGIES ≡ 8
  pub sequence : MOST_SEQUENCE ≡ 65535
  -- of bandwidth, in kbit/s
  pub kbps : MOST_KBPS ≡ 10000000
  pub session_kbps : MOST_SESSION_KBPS ≡ 5000
  -- if a line gives none
  pub ras_port : DEFAULT_RAS_PORT ≡ 1719
  pub signalling_port : SIGNALLING_PORT ≡ 1720
  pub cost : DEFAULT_COST ≡ 50
  pub priority : DEFAULT_PRIORITY ≡ 50
  pub gateway_priority : DEFAULT_GATEWAY_PRIORITY ≡ 5
