use Rattle.std.proofs.Common.{rules}
use Rattle.live_desk.proofs.Grows.{puts_nothing}
use Rattle.live_desk.proofs.seats.Seat.ask.Goals as goal

pub returns-in_default : goal.returns-in_default
returns-in_default g c = record {
  book = c.answer.ensures.book;
  names = search rules;
  astray = c.answer.ensures.astray;
  lost = c.answer.ensures.lost;
  seen = c.answer.ensures.seen;
  rises = c.answer.ensures.rises;
  asked = search rules;
  put = λ _. puts_nothing _ _ _ (search rules);
}
