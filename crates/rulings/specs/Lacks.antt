-- What an event may lack for what was ruled of it to be recorded, and the reply then.
use Rattle.std.specs.Prelude.{Option, Some, None}
use Rattle.std.specs.Option.{option_map}
use Rattle.rulings.specs.declared.lacks.Lack.{Lack}
use Rattle.rulings.specs.declared.lacks.Lack.TheVariants.{Limit, Record, Memory}
use Rattle.rulings.specs.declared.replies.RegisterRefusal.{RegisterRefusal}
use Rattle.rulings.specs.declared.replies.RegisterRefusal.TheVariants as register
use Rattle.rulings.specs.declared.replies.UnregisterRefusal.{UnregisterRefusal}
use Rattle.rulings.specs.declared.replies.UnregisterRefusal.TheVariants as unregister
use Rattle.rulings.specs.declared.replies.AdmitRefusal.{AdmitRefusal}
use Rattle.rulings.specs.declared.replies.AdmitRefusal.TheVariants as admit
use Rattle.rulings.specs.declared.replies.ChangeRefusal.{ChangeRefusal}
use Rattle.rulings.specs.declared.replies.ChangeRefusal.TheVariants as change
use Rattle.rulings.specs.declared.replies.ReloadRefusal.{ReloadRefusal}
use Rattle.rulings.specs.declared.replies.ReloadRefusal.TheVariants as reload
use Rattle.rulings.specs.declared.replies.Reply.{Reply}
use Rattle.rulings.specs.declared.replies.Reply.TheVariants.{RegisterRefused, UnregisterRefused, AdmitRefused, ChangeRefused, ReloadRefused}
use Rattle.rulings.specs.Events.{PlainEvent, Registering, Unregistering, Admitting, Answering, Changing, Releasing, Reloading}

-- ---- as the reason of a refusal
abbrev pub register_reason : Lack → RegisterRefusal
register_reason Limit = register.EndpointsFull
register_reason Record = register.RecordFull
register_reason Memory = register.NoMemory

-- there is no limit for unregistrations
abbrev pub unregister_reason : Lack → Option UnregisterRefusal
unregister_reason Limit = None
unregister_reason Record = Some unregister.RecordFull
unregister_reason Memory = Some unregister.NoMemory

abbrev pub admit_reason : Lack → AdmitRefusal
admit_reason Limit = admit.CallsFull
admit_reason Record = admit.RecordFull
admit_reason Memory = admit.NoMemory

-- nor for bandwidth changes: a limit of bandwidth is no limit of a count
abbrev pub change_reason : Lack → Option ChangeRefusal
change_reason Limit = None
change_reason Record = Some change.RecordFull
change_reason Memory = Some change.NoMemory

abbrev pub reload_reason : Lack → ReloadRefusal
reload_reason Limit = reload.ReloadsSpent
reload_reason Record = reload.RecordFull
reload_reason Memory = reload.NoMemory

-- ---- the reply to an event that lacks this; none to a release, which lacks nothing, and none if
-- there is no limit that the event could meet
abbrev pub reply_without : PlainEvent → Lack → Option Reply
reply_without (Registering e) lack = Some (RegisterRefused e.id (register_reason lack))
reply_without (Unregistering id) lack = option_map (UnregisterRefused id) (unregister_reason lack)
reply_without (Admitting id call digits units) lack = Some (AdmitRefused call (admit_reason lack))
reply_without (Answering id call units) lack = Some (AdmitRefused call (admit_reason lack))
reply_without (Changing id call units) lack = option_map (ChangeRefused call) (change_reason lack)
reply_without (Releasing id call) lack = None
reply_without (Reloading commands) lack = Some (ReloadRefused (reload_reason lack))

-- the reply if memory runs out for an event that would be recorded; a release takes none
abbrev pub no_memory_reply_of : PlainEvent → Option Reply
no_memory_reply_of event = reply_without event Memory
