-- What a registration asks: RRQ seq KIND id zone addr [e164=D] [tech=P] ..
use Rattle.std.specs.Prelude.{ℕ, ◌-◌, ◌==◌, Bool, false, not, List, [], ◌∷◌, take, drop, filter, Option, Some, None, Result, Ok, Err, is_ok, option_map, codes, bytes_eq, if◌then◌else◌}
use Rattle.std.specs.List.{filter_map}
use Rattle.std.specs.Option.{ok_or}
use Rattle.std.specs.Result.{result_ok}
use Rattle.gk_terms.specs.Fields.{◌>>=◌}
use Rattle.gk_terms.specs.Text.{words_of, is_too_long}
use Rattle.gk_terms.specs.Name.{name_of}
use Rattle.gk_terms.specs.Address.{address_of}
use Rattle.gk_terms.specs.Dialled.{dialled_of}
use Rattle.gk_terms.specs.TechPrefix.{tech_prefix_of}
use Rattle.gk_terms.specs.declared.limits.TheConstants.{MOST_ALIASES, MOST_TECHNOLOGIES}
use Rattle.registry.specs.Endpoint.{EndpointParts}
use Rattle.rulings.specs.declared.replies.RegisterRefusal.TheVariants as register
use Rattle.rulings.specs.declared.replies.Reply.TheVariants.{RegisterRefused}
use Rattle.gk_protocol.specs.declared.answers.Answer.{Answer}
use Rattle.gk_protocol.specs.declared.answers.Answer.TheVariants.{Reply}
use Rattle.gk_protocol.specs.declared.request_faults.RequestFault.{RequestFault}
use Rattle.gk_protocol.specs.declared.request_faults.RequestFault.TheVariants as fault
use Rattle.gk_protocol.specs.declared.request_fields.TheConstants.{SIGNALLING_PORT}
use Rattle.gk_protocol.specs.declared.registrations.OptionsLeft.{OptionsLeft}
use Rattle.gk_protocol.specs.declared.registrations.RegistrationOption.{RegistrationOption}
use Rattle.gk_protocol.specs.declared.registrations.RegistrationOption.TheVariants.{Alias, Technology}
use Rattle.gk_protocol.specs.declared.requests.Request.{Request}
use Rattle.gk_protocol.specs.declared.requests.Request.TheVariants.{Register}
use Rattle.gk_protocol.specs.RequestFields.{sequence_number_of, endpoint_kind_of, field_at}

-- ---- seq KIND id zone addr
-- kind, ID, zone and address, as an endpoint without aliases and technology prefixes
abbrev pub endpoint_at : List (List ℕ) → Result (EndpointParts × List (List ℕ)) RequestFault
endpoint_at words = do
  kind ← field_at endpoint_kind_of fault.BadOption words
  id ← field_at name_of fault.BadName kind.1
  zone ← field_at name_of fault.BadName id.1
  address ← field_at (address_of SIGNALLING_PORT) fault.BadAddress zone.1
  Ok (
    record {
      kind = kind.0;
      id = id.0;
      zone = zone.0;
      address = address.0;
      aliases = [];
      technologies = [];
    },
    address.1,
  )

-- ---- [e164=D] [tech=P] ..
-- an option as its text reads, if one more of its kind may stand; one too many is a bad option,
-- whatever its text says
abbrev pub option_if_left : ℕ → Option RegistrationOption → Result RegistrationOption RequestFault
option_if_left left option = if left == 0 then Err fault.BadOption else ok_or option fault.BadDigits

-- the option that a word is
abbrev pub registration_option_of : OptionsLeft → List ℕ → Result RegistrationOption RequestFault
registration_option_of left word =
    if bytes_eq (take 5 word) (codes "e164=")
    then option_if_left left.aliases (option_map Alias (dialled_of (drop 5 word)))
    else (if bytes_eq (take 5 word) (codes "tech=")
    then option_if_left left.technologies (option_map Technology (tech_prefix_of (drop 5 word)))
    else Err fault.BadOption)

-- how many options of each kind may stand, counted as written
abbrev pub all_options : OptionsLeft
all_options = record { aliases = MOST_ALIASES; technologies = MOST_TECHNOLOGIES }

-- and after one more
abbrev pub left_after : OptionsLeft → RegistrationOption → OptionsLeft
left_after left (Alias digits) = record left { aliases = left.aliases - 1 }
left_after left (Technology prefix) = record left { technologies = left.technologies - 1 }

-- the options of these words, one after another, or the first fault
abbrev pub registration_options_at : OptionsLeft → List (List ℕ)
    → Result (List RegistrationOption) RequestFault
registration_options_at left [] = Ok []
registration_options_at left (word ∷ words) = do
  option ← registration_option_of left word
  options ← registration_options_at (left_after left option) words
  Ok (option ∷ options)

-- ---- the request
-- each text once, where it stands first
abbrev pub each_once : List (List ℕ) → List (List ℕ)
each_once [] = []
each_once (text ∷ texts) =
    text ∷ filter (λ later. not (bytes_eq later text)) (each_once texts)

-- the alias that an option gives, or the technology prefix
abbrev pub alias_given : RegistrationOption → Option (List ℕ)
alias_given (Alias digits) = Some digits
alias_given (Technology prefix) = None

abbrev pub technology_given : RegistrationOption → Option (List ℕ)
technology_given (Alias digits) = None
technology_given (Technology prefix) = Some prefix

-- the endpoint with the aliases and technology prefixes of its options
abbrev pub with_options_at : EndpointParts → List (List ℕ) → Result EndpointParts RequestFault
with_options_at bare words = do
  options ← registration_options_at all_options words
  Ok (record bare {
    aliases = each_once (filter_map alias_given options);
    technologies = each_once (filter_map technology_given options);
  })

-- the sequence number and the endpoint
abbrev pub registration_at : List (List ℕ) → Result (ℕ × EndpointParts) RequestFault
registration_at words = do
  sequence ← field_at sequence_number_of fault.BadSequence words
  bare ← endpoint_at sequence.1
  endpoint ← with_options_at bare.0 bare.1
  Ok (sequence.0, endpoint)

abbrev pub register_at : List (List ℕ) → Result Request RequestFault
register_at words = do
  fields ← registration_at words
  Ok (Register fields.0 fields.1)

-- ---- out of memory
-- a registration's refusal if memory runs out
abbrev pub no_memory_to : ℕ × List ℕ → Answer
no_memory_to registering = Reply registering.0 (RegisterRefused registering.1 register.NoMemory)

-- whether the first of these words is an option
abbrev pub begins_with_option : List (List ℕ) → Bool
begins_with_option [] = false
begins_with_option (word ∷ words) = is_ok (registration_option_of all_options word)

-- the sequence number and the ID, if the first option could be read
abbrev pub registering_at : List (List ℕ) → Option (ℕ × List ℕ)
registering_at words = result_ok (do
  sequence ← field_at sequence_number_of fault.BadSequence words
  bare ← endpoint_at sequence.1
  if begins_with_option bare.1 then Ok (sequence.0, bare.0.id) else Err fault.BadOption)

-- the answer that may stand in the place of another, if memory runs out for the options
abbrev pub no_memory_at : List (List ℕ) → Option Answer
no_memory_at words = option_map no_memory_to (registering_at words)

abbrev pub registering_by_word : List (List ℕ) → Option (ℕ × List ℕ)
registering_by_word [] = None
registering_by_word (word ∷ words) =
    if bytes_eq word (codes "RRQ") then registering_at words else None

-- the sequence number and the ID of a registration that could be read up to and including its first
-- option
unfoldable pub registering_of : List ℕ → Option (ℕ × List ℕ)
registering_of line = if is_too_long line then None else registering_by_word (words_of line)

-- the answer that may stand in the place of another, if memory runs out for the options of a line
abbrev pub no_memory_answer_of : List ℕ → Option Answer
no_memory_answer_of line = option_map no_memory_to (registering_of line)
