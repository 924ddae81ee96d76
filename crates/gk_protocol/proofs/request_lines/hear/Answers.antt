use Rattle.std.proofs.Common.{rules}
use Rattle.std.specs.Prelude.{None, codes}
use Rattle.std.proofs.lemmas.Slice.Eq.{text_from_reads}
use Rattle.gk_terms.specs.Text.{words_of}
use Rattle.gk_protocol.specs.Registrations.{register_at, no_memory_at}
use Rattle.gk_protocol.specs.Requests.{admit_at, incoming_at, change_at, release_at, reload_at, try_at, unregister_at}
use Rattle.gk_protocol.proofs.AskedLemmas.{asks_at, registers_at, heard_request, heard_owner, lacks_none, lacks_options}
use Rattle.gk_protocol.proofs.request_lines.hear.Goals as goal

pub returns-in-RRQ : goal.returns-in-RRQ
returns-in-RRQ g c =
    let word = c.in-Some.word.now in
    let words = words_of c.next.new.self in
    let first = text_from_reads word (codes "RRQ") (search rules)
    (search rules, (search rules, (search rules, tt))) in
    heard_request g.A.Answerer.may_answer _ _ c.args.line.now _ (register_at words)
    (no_memory_at words) _
    (asks_at c.args.line.now word (codes "RRQ") words (search rules) (search rules) first)
    (lacks_options c.args.line.now words
    (registers_at c.args.line.now word (codes "RRQ") words (search rules) (search rules) first))
    c.register.ensures

pub returns-in-CFG : goal.returns-in-CFG
returns-in-CFG g c =
    let word = c.in-Some.word.now in
    let words = words_of c.next.new.self in
    let first = text_from_reads word (codes "CFG") (search rules)
    (search rules, (search rules, (search rules, tt))) in
    heard_owner g.A.Answerer.may_answer _ c.args.line.now _ (reload_at words) _ _
    (asks_at c.args.line.now word (codes "CFG") words (search rules) (search rules) first)
    c.reload.ensures c.owns.ensures

pub returns-in-TRY : goal.returns-in-TRY
returns-in-TRY g c =
    let word = c.in-Some.word.now in
    let words = words_of c.next.new.self in
    let first = text_from_reads word (codes "TRY") (search rules)
    (search rules, (search rules, (search rules, tt))) in
    heard_owner g.A.Answerer.may_answer _ c.args.line.now _ (try_at words) _ _
    (asks_at c.args.line.now word (codes "TRY") words (search rules) (search rules) first)
    c.trial.ensures c.owns-in-TRY.ensures

pub returns-in-URQ : goal.returns-in-URQ
returns-in-URQ g c =
    let word = c.in-Some.word.now in
    let words = words_of c.next.new.self in
    let first = text_from_reads word (codes "URQ") (search rules)
    (search rules, (search rules, (search rules, tt))) in
    heard_request g.A.Answerer.may_answer _ _ c.args.line.now _ (unregister_at words) None _
    (asks_at c.args.line.now word (codes "URQ") words (search rules) (search rules) first)
    (lacks_none c.args.line.now) c.unregister.ensures

pub returns-in-ARQ : goal.returns-in-ARQ
returns-in-ARQ g c =
    let word = c.in-Some.word.now in
    let words = words_of c.next.new.self in
    let first = text_from_reads word (codes "ARQ") (search rules)
    (search rules, (search rules, (search rules, tt))) in
    heard_request g.A.Answerer.may_answer _ _ c.args.line.now _ (admit_at words) None _
    (asks_at c.args.line.now word (codes "ARQ") words (search rules) (search rules) first)
    (lacks_none c.args.line.now) c.admit.ensures

pub returns-in-ANS : goal.returns-in-ANS
returns-in-ANS g c =
    let word = c.in-Some.word.now in
    let words = words_of c.next.new.self in
    let first = text_from_reads word (codes "ANS") (search rules)
    (search rules, (search rules, (search rules, tt))) in
    heard_request g.A.Answerer.may_answer _ _ c.args.line.now _ (incoming_at words) None _
    (asks_at c.args.line.now word (codes "ANS") words (search rules) (search rules) first)
    (lacks_none c.args.line.now) c.incoming.ensures

pub returns-in-BRQ : goal.returns-in-BRQ
returns-in-BRQ g c =
    let word = c.in-Some.word.now in
    let words = words_of c.next.new.self in
    let first = text_from_reads word (codes "BRQ") (search rules)
    (search rules, (search rules, (search rules, tt))) in
    heard_request g.A.Answerer.may_answer _ _ c.args.line.now _ (change_at words) None _
    (asks_at c.args.line.now word (codes "BRQ") words (search rules) (search rules) first)
    (lacks_none c.args.line.now) c.change.ensures

pub returns-in-DRQ : goal.returns-in-DRQ
returns-in-DRQ g c =
    let word = c.in-Some.word.now in
    let words = words_of c.next.new.self in
    let first = text_from_reads word (codes "DRQ") (search rules)
    (search rules, (search rules, (search rules, tt))) in
    heard_request g.A.Answerer.may_answer _ _ c.args.line.now _ (release_at words) None _
    (asks_at c.args.line.now word (codes "DRQ") words (search rules) (search rules) first)
    (lacks_none c.args.line.now) c.release.ensures
