use Rattle.std.proofs.Common.{◌≡◌}
use Rattle.bibkit_core.specs.Replaced.{AreNamesTaken}
use Rattle.bibkit_core.specs.ReplaceSteps.{TouchesNothing}
use Rattle.bibkit_core.proofs.replacing.make_beside.Given as goal

-- no name is affected, the names tried so far are in use, and no call has failed
abbrev pub invariant-loop-number : goal.invariant-loop-number
invariant-loop-number g l = record {
  touched : (g.F.Folder.disk l.initial.folder).is_known → TouchesNothing (g.F.Folder.disk l.initial.folder) (g.F.Folder.disk l.folder);
  taken : (g.F.Folder.disk l.initial.folder).is_known → AreNamesTaken l.target l.number (g.F.Folder.disk l.initial.folder);
  counted : g.F.Folder.failures l.folder ≡ g.F.Folder.failures l.initial.folder;
}
