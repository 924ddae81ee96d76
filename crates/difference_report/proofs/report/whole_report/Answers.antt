use Rattle.difference_report.specs.declared.wanted.Listing.TheVariants as listings
use Rattle.difference_report.proofs.ReportLemmas.{is_report}
use Rattle.difference_report.proofs.report.whole_report.Goals as goal

pub returns : goal.returns
returns c =
    is_report (λ r. r.text.items) (λ r. r.differs) c.args.old.now.commands
    c.args.new.now.commands listings.All c.args.form c.in_ok-sets.sets c.in_ok-changed.changed
    c.in_ok-changed.ensures.difference c.in_ok-changed.ensures.samples
    (c.in_ok-sets.ensures.classes, c.in_ok-sets.ensures.digits, c.in_ok-changed.ensures.part)
    c.in_ok-sets.ensures.grouped c.report_of.result c.report_of.ensures.says
    c.report_of.ensures.decides
