use Rattle.std.proofs.Common.{◌≡◌, ◌++◌}
use Rattle.trial_run.specs.ReportText.{report_text}
use Rattle.gk_protocol.proofs.TrialLemmas.{text_written}
use Rattle.gk_protocol.proofs.trials.text_of.Goals as goal

pub returns-in-Ok : goal.returns-in-Ok
returns-in-Ok c =
    let added : c.write_report.new.writer.bytes.items
    ≡ c.new-writer.result.bytes.items ++ report_text c.args.report.now = c.in-Ok.ensures.whole in
    text_written c.new-writer.result.bytes.items c.write_report.new.writer.bytes.items
    c.into_text.result (report_text c.args.report.now) c.new-writer.ensures added c.into_text.ensures
