use Rattle.std.proofs.Common.{refl, sym, ap, subst, ◌∙◌, List}
use Rattle.entry_bytes.specs.Entry.{PlainEntry}
use Rattle.live_desk.specs.Seats.{RoomParts, SeatParts, LastStands}
use Rattle.live_desk.proofs.Grows.{asked_by, rising, step_held}
use Rattle.live_desk.proofs.room.Room.reload.Goals as goal

pub returns-in-Ok-clause-rises : goal.returns-in-Ok-clause-rises
returns-in-Ok-clause-rises g c = λ found.
    let same = ap (λ (r : RoomParts). r.entries) (c.self.view_is ∙ c.begin.ensures.same) in
    let stays = ap (λ (s : SeatParts). s.astray) (c.enter.ensures.entered)
    ∙ ap (λ (s : SeatParts). s.astray) c.see.ensures.same
    ∙ ap (λ (s : SeatParts). s.astray) c.seat.view_is in
    let stands = (c.begin.ensures.astray.0 (sym stays ∙ found)).1 in
    rising c.self.inside.live.entries c.args.seat.now.last c.reload_turn-answer.result.0
    (subst (λ (es : List PlainEntry). LastStands es c.args.seat.now.last) (sym same) stands)
    c.reload_turn-answer.ensures.number

pub returns-in-Ok-clause-asked : goal.returns-in-Ok-clause-asked
returns-in-Ok-clause-asked g c =
    let stays = ap (λ (s : SeatParts). s.astray) (c.enter.ensures.entered)
    ∙ ap (λ (s : SeatParts). s.astray) c.see.ensures.same
    ∙ ap (λ (s : SeatParts). s.astray) c.seat.view_is in
    asked_by _ c.self.inside.live c.reload_turn-answer.new.live c.args.self.now.entries _ _
    c.begin.new.seat.astray _ _ c.self.invariant.0 c.self.invariant.1
    (ap (λ (r : RoomParts). r.entries) (c.self.view_is ∙ c.begin.ensures.same))
    c.begin.ensures.lawful c.begin.ensures.long c.begin.ensures.astray (sym stays)
    c.reload_turn-answer.ensures.step
    (λ kept. ap (λ (s : SeatParts). s.seen) (c.enter.ensures.entered)
    ∙ ap (λ (s : SeatParts). s.seen) c.see.ensures.same
    ∙ c.reload_turn-answer.ensures.met (c.see.ensures.met
    (sym (ap (λ (s : SeatParts). s.lost) c.enter.ensures.entered) ∙ kept)))

pub returns-in_default-clause-asked : goal.returns-in_default-clause-asked
returns-in_default-clause-asked g c =
    let stays = ap (λ (s : SeatParts). s.astray) c.see.ensures.same
    ∙ ap (λ (s : SeatParts). s.astray) c.seat.view_is in
    asked_by _ c.self.inside.live c.reload_turn-answer.new.live c.args.self.now.entries _ _
    c.begin.new.seat.astray _ _ c.self.invariant.0 c.self.invariant.1
    (ap (λ (r : RoomParts). r.entries) (c.self.view_is ∙ c.begin.ensures.same))
    c.begin.ensures.lawful c.begin.ensures.long c.begin.ensures.astray (sym stays)
    c.reload_turn-answer.ensures.step
    (λ kept. ap (λ (s : SeatParts). s.seen) c.see.ensures.same
    ∙ c.reload_turn-answer.ensures.met (c.see.ensures.met kept))

pub returns-in-Ok-clause-step : goal.returns-in-Ok-clause-step
returns-in-Ok-clause-step g c =
    step_held _ c.self.inside.live c.reload_turn-answer.new.live c.args.self.now.entries _ _ _
    c.self.invariant.0 c.self.invariant.1
    (ap (λ (r : RoomParts). r.entries) (c.self.view_is ∙ c.begin.ensures.same)) refl
    c.reload_turn-answer.ensures.step

pub returns-in_default-clause-step : goal.returns-in_default-clause-step
returns-in_default-clause-step g c =
    step_held _ c.self.inside.live c.reload_turn-answer.new.live c.args.self.now.entries _ _ _
    c.self.invariant.0 c.self.invariant.1
    (ap (λ (r : RoomParts). r.entries) (c.self.view_is ∙ c.begin.ensures.same)) refl
    c.reload_turn-answer.ensures.step
