-- What a publication stands for while it is shown.
use Rattle.std.specs.Prelude.{List, [], ◌∷◌, ◌++◌}
use Rattle.std.specs.Arc.{arc_value}
use Rattle.gk_commands.specs.declared.commands.Command.{Command}
use Rattle.publisher.specs.declared.publications.Publication.{Publication}
use Rattle.publisher.specs.declared.entries.Entry.{Entry}
use Rattle.publisher.specs.History.{confirmation_of, shown_by}

-- the list of generations
abbrev pub list_of : Publication → List (List Command)
list_of shown = shown_by shown.stem.seen.log (arc_value shown.tables).commands

-- the history up to its draft, and the entry which says that it is in force
abbrev pub confirmed_by : Publication → List Entry
confirmed_by shown =
    shown.stem.seen.log ++ confirmation_of (arc_value shown.tables).commands ∷ []
