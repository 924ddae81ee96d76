use Rattle.std.proofs.Common.{sym}
use Rattle.gk_terms.specs.Text.{words_of}
use Rattle.command_reader.proofs.PrintingLemmas.{OnErr-from}
use Rattle.gk_protocol.proofs.RegistrationLemmas.{none_read, room_for, one_read, stopped_at}
use Rattle.gk_protocol.proofs.registrations.add_options.Goals as goal

pub loop-word-init : goal.loop-word-init
loop-word-init c =
    rw c.into_iter-word-iterator.ensures.into_iter_gives
    (none_read c.args.endpoint.now (words_of c.args.words.now) c.requires)

pub add_option-requires : goal.add_option-requires
add_option-requires c =
    room_for c.args.endpoint.now (words_of c.args.words.now) c.loop-word.left c.loop-word.endpoint
    (words_of c.loop-word.word-iterator.now) c.in-Some.word.now c.in_ok-option.option
    c.loop-word.invariant (sym c.in_ok-option.ensures)

pub loop-word-preserved : goal.loop-word-preserved
loop-word-preserved c =
    rw (c.left_after-left.ensures, c.in_ok-add_option.ensures)
    (one_read c.args.endpoint.now (words_of c.args.words.now) c.loop-word.left c.loop-word.endpoint
    (words_of c.loop-word.word-iterator.now) (words_of c.next.new.self.now) c.in-Some.word.now
    c.in_ok-option.option c.loop-word.invariant c.in-Some.ensures.steps
    (sym c.in_ok-option.ensures))

pub returns-in_err-option-clause-stopped : goal.returns-in_err-option-clause-stopped
returns-in_err-option-clause-stopped c =
    OnErr-from c.from_residual.result _
    (stopped_at c.args.endpoint.now (words_of c.args.words.now) c.loop-word.left
    c.loop-word.endpoint (words_of c.loop-word.word-iterator.now) (words_of c.next.new.self.now)
    c.in-Some.word.now c.loop-word.invariant c.in-Some.ensures.steps)

pub returns-in_err-add_option-clause-stopped : goal.returns-in_err-add_option-clause-stopped
returns-in_err-add_option-clause-stopped c =
    rw (c.in_err-add_option.ensures.1)
    (OnErr-from c.from_residual-in_err-add_option.result _
    (stopped_at c.args.endpoint.now (words_of c.args.words.now) c.loop-word.left
    c.loop-word.endpoint (words_of c.loop-word.word-iterator.now) (words_of c.next.new.self.now)
    c.in-Some.word.now c.loop-word.invariant c.in-Some.ensures.steps))
