use Rattle.std.proofs.Common.{◌≡◌, [], Some, ◌∙◌}
use Rattle.bibkit_core.specs.Folder.{IsAsBefore, OfOpen, IsSaved}
use Rattle.bibkit_core.specs.ReplaceSteps.{IsFilled}
use Rattle.bibkit_core.proofs.Results.{on_ok}
use Rattle.bibkit_core.proofs.Touching.{touches_one, one_then_one}
use Rattle.bibkit_core.proofs.replacing.fill.Goals as goal

pub returns-in_err-write-clause-touches : goal.returns-in_err-write-clause-touches
returns-in_err-write-clause-touches g c known name is_open =
    touches_one name _ _ (c.write.ensures.known known) (c.write.ensures.others known name is_open) (c.write.ensures.time known)

pub returns-clause-touches : goal.returns-clause-touches
returns-clause-touches g c known name is_open =
    let later = c.write.ensures.known known in
    let still_open = c.write.ensures.is_open known ∙ is_open in
    one_then_one name _ _ _
    (touches_one name _ _ later (c.write.ensures.others known name is_open) (c.write.ensures.time known))
    (touches_one name _ _ (c.sync.ensures.known later) (c.sync.ensures.others later name still_open) (c.sync.ensures.time later))

-- a successful sync leaves the bytes of the file unchanged, and saves them
pub returns-clause-filled : goal.returns-clause-filled
returns-clause-filled g c known =
    let later = c.write.ensures.known known in
    let start = g.F.Folder.disk c.args.folder.now in
    let written = g.F.Folder.disk c.write.new.self in
    let synced = g.F.Folder.disk c.sync.new.self in
    on_ok c.sync.result (IsAsBefore written synced) (OfOpen written (λ name. IsSaved name synced))
    (OfOpen start (λ name. start.holds name ≡ Some [] → IsFilled c.args.text.now name synced))
    (λ same saved name is_open empty. record {
      full = same.holds name ∙ c.in_ok-write.ensures.written known name is_open [] empty;
      saved = saved name (c.write.ensures.is_open known ∙ is_open);
    })
    (c.sync.ensures.same later) (c.sync.ensures.saved later)
