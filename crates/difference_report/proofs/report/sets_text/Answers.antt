use Rattle.std.proofs.Common.{rules, ◌+◌, ◌<◌, length, [], None}
use Rattle.difference_report.specs.Blocks.{IsBlock, group_in}
use Rattle.difference_report.specs.ReportText.{with_entry}
use Rattle.difference_report.proofs.Steps.{stepped, there}
use Rattle.difference_report.proofs.report.sets_text.Goals as goal

pub loop-place-preserved : goal.loop-place-preserved
loop-place-preserved c =
    let within : c.loop-place.place < length c.args.found.now.listed = search rules in
    record {
      text = stepped (with_entry c.args.found.now.old c.args.found.now.new
          c.args.found.now.listed c.args.found.now.changed) ([], None) c.args.found.now.listed
          c.loop-place.place (c.loop-place.text.items, group_in c.loop-place.block)
          (c.add_at.new.text.items, group_in c.in_ok-block.block)
          within c.loop-place.invariant.text c.in_ok-block.ensures.text;
      block = there (IsBlock c.args.found.now.old c.args.found.now.new c.args.found.now.listed
          (c.loop-place.place + 1) c.in_ok-block.block) c.args.found.now.listed
          c.loop-place.place within c.in_ok-block.ensures.block;
    }
