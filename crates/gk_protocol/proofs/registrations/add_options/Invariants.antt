use Rattle.gk_terms.specs.Text.{words_of}
use Rattle.gk_protocol.proofs.RegistrationLemmas.{AreAddedSoFar}
use Rattle.gk_protocol.proofs.registrations.add_options.Given as goal

abbrev pub invariant-loop-word : goal.invariant-loop-word
invariant-loop-word l =
    AreAddedSoFar l.fn.endpoint (words_of l.fn.words) l.left l.endpoint (words_of l.word-iterator)
