use Rattle.std.proofs.Common.{rules}
use Rattle.gk_terms.specs.Text.{words_of}
use Rattle.gk_protocol.specs.RegistrationOptions.{IsNoRegistrationAt}
use Rattle.gk_protocol.proofs.AskedLemmas.{registration_lacks}
use Rattle.gk_protocol.proofs.registrations.register.Goals as goal

pub returns-in-Err : goal.returns-in-Err
returns-in-Err g c =
    let unread : IsNoRegistrationAt (words_of c.args.words.now) c.in-Err.none = search rules in
    registration_lacks g.A.Answerer.may_answer c.args.answerer.now _
    (words_of c.args.words.now)
    c.in-Err.none _ unread c.lack_options.ensures
