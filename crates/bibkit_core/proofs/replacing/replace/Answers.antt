use Rattle.std.proofs.Common.{◌≡◌, ◌≢◌, ◌⊎◌, inl, inr, ⊎_elim, ℕ, ◌+◌, ◌-◌, ◌^◌, min, None, List, Some, Result, IfErr, sym, ap, subst, ◌∙◌}
use Rattle.bibkit_core.specs.Folder.{Disk}
use Rattle.bibkit_core.specs.Replaced.{IsLeft, OthersHold, AreTwoFailed}
use Rattle.bibkit_core.specs.ReplaceSteps.{IsFilled, IsMadeBeside, IsExchange, IsExchanged, IsExchangeError, TouchesOnly}
use Rattle.bibkit_core.specs.declared.replacing.ReplaceError.{ReplaceError}
use Rattle.bibkit_core.proofs.Results.{on_ok_by, on_err_by, removed_or_two, after_exchange, gone_or_two}
use Rattle.bibkit_core.proofs.Touching.{touches_one, one_then_one}
use Rattle.bibkit_core.proofs.Outcomes.{KeepsBut, kept_untouched, kept_exchanged, taken_kept, others_kept, others_hold, old_or_new, never_torn_untouched, never_torn_exchanged, done_exchanged, left_exchanged, either_exchanged}
use Rattle.bibkit_core.proofs.replacing.replace.Given.{Over}
use Rattle.bibkit_core.proofs.replacing.replace.Goals.{After-exchange, After-remove}
use Rattle.bibkit_core.proofs.replacing.replace.Goals as goal

-- ---- the new file can't be written or synced, and is removed

module _ (g : Over) (c : After-remove g) (known : (g.F.Folder.disk c.args.folder.now).is_known) where
  abbrev removed_start : Disk
  removed_start = g.F.Folder.disk c.args.folder.now

  abbrev removed_made : Disk
  removed_made = g.F.Folder.disk c.make_beside.new.folder

  abbrev removed_end : Disk
  removed_end = g.F.Folder.disk c.remove.new.self

  removed_beside : IsMadeBeside c.args.target.now c.as_str.result.now removed_start removed_made
  removed_beside =
      subst (λ n. IsMadeBeside c.args.target.now n removed_start removed_made) (sym c.as_str.ensures.value)
      (c.in_ok-name.ensures.made known)

  removed_differs : c.as_str.result.now ≢ c.args.target.now
  removed_differs = subst (λ n. n ≢ c.args.target.now) (sym c.as_str.ensures.value) c.in_ok-name.ensures.distinct

  -- the calls until the new file is removed affect only the new file
  removed_touches : TouchesOnly c.as_str.result.now removed_start removed_end
  removed_touches =
      let name = c.as_str.result.now in
      let filled = c.in-Err.ensures.touches removed_beside.touches.known name removed_beside.is_open in
      let removed =
      touches_one name _ removed_end (c.remove.ensures.known filled.known) (c.remove.ensures.others filled.known)
      (c.remove.ensures.time filled.known) in
      one_then_one name removed_start removed_made removed_end removed_beside.touches
      (one_then_one name removed_made _ removed_end filled removed)

  removed_keeps : KeepsBut c.as_str.result.now c.args.target.now removed_start removed_end
  removed_keeps = kept_untouched c.as_str.result.now c.args.target.now removed_start removed_end removed_touches

  removed_or_failed : OthersHold c.args.target.now removed_start removed_end
      ⊎ AreTwoFailed (g.F.Folder.failures c.args.folder.now) (g.F.Folder.failures c.remove.new.self)
  removed_or_failed = ⊎_elim
      {C =
      OthersHold c.args.target.now removed_start removed_end
      ⊎ AreTwoFailed (g.F.Folder.failures c.args.folder.now) (g.F.Folder.failures c.remove.new.self)}
      (λ gone.
      inl
      (others_hold c.args.target.now c.as_str.result.now removed_start removed_made removed_end removed_beside
      removed_keeps gone)) (λ two. inr two)
      (removed_or_two c.remove.result (removed_end.holds c.as_str.result.now ≡ None) (g.F.Folder.failures c.args.folder.now)
      (g.F.Folder.failures c.fill.new.folder) (g.F.Folder.failures c.remove.new.self)
      (c.in-Err.ensures.counted ∙ ap (λ (n : ℕ). min (n + 1) (2 ^ 64 - 1)) c.in_ok-name.ensures.counted)
      (c.remove.ensures.removed
      (c.in-Err.ensures.touches removed_beside.touches.known c.as_str.result.now removed_beside.is_open).known)
      c.remove.ensures.counted)

pub returns-in-Err-clause-crash : goal.returns-in-Err-clause-crash
returns-in-Err-clause-crash g c known =
    let at = (goal.at.returns-in-Err-clause-crash g c).After-remove in
    never_torn_untouched _ c.args.target.now c.args.text.now _ _ (removed_differs g at known) (removed_touches g at known)

pub returns-in-Err-clause-whole : goal.returns-in-Err-clause-whole
returns-in-Err-clause-whole g c known on_disk =
    let at = (goal.at.returns-in-Err-clause-whole g c).After-remove in
    old_or_new c.args.target.now c.args.text.now _ _
    (never_torn_untouched _ c.args.target.now c.args.text.now _ _ (removed_differs g at known) (removed_touches g at known))
    on_disk

pub returns-in-Err-clause-failed : goal.returns-in-Err-clause-failed
returns-in-Err-clause-failed g c known =
    let at = (goal.at.returns-in-Err-clause-failed g c).After-remove in
    (removed_touches g at known).others.holds c.args.target.now (λ same. removed_differs g at known (sym same))

pub returns-in-Err-clause-taken : goal.returns-in-Err-clause-taken
returns-in-Err-clause-taken g c known =
    let at = (goal.at.returns-in-Err-clause-taken g c).After-remove in
    taken_kept c.args.target.now _ _ _ _ (removed_beside g at known) (removed_keeps g at known)

pub returns-in-Err-clause-others : goal.returns-in-Err-clause-others
returns-in-Err-clause-others g c known =
    let at = (goal.at.returns-in-Err-clause-others g c).After-remove in
    others_kept c.args.target.now _ _ _ _ (removed_beside g at known) (removed_keeps g at known)

pub returns-in-Err-clause-removed : goal.returns-in-Err-clause-removed
returns-in-Err-clause-removed g c known =
    removed_or_failed g (goal.at.returns-in-Err-clause-removed g c).After-remove known

-- ---- the new file is written and synced, and then renamed to the target

module _ (g : Over) (c : After-exchange g) (known : (g.F.Folder.disk c.args.folder.now).is_known) where
  abbrev renamed_start : Disk
  renamed_start = g.F.Folder.disk c.args.folder.now

  abbrev renamed_made : Disk
  renamed_made = g.F.Folder.disk c.make_beside.new.folder

  abbrev renamed_mid : Disk
  renamed_mid = g.F.Folder.disk c.fill.new.folder

  abbrev renamed_end : Disk
  renamed_end = g.F.Folder.disk c.exchange.new.folder

  renamed_beside : IsMadeBeside c.args.target.now c.as_str-2.result.now renamed_start renamed_made
  renamed_beside =
      subst (λ n. IsMadeBeside c.args.target.now n renamed_start renamed_made) (sym c.as_str-2.ensures.value)
      (c.in_ok-name.ensures.made known)

  renamed_differs : c.as_str-2.result.now ≢ c.args.target.now
  renamed_differs = subst (λ n. n ≢ c.args.target.now) (sym c.as_str-2.ensures.value) c.in_ok-name.ensures.distinct

  -- the calls before the exchange affect only the new file
  renamed_touches : TouchesOnly c.as_str-2.result.now renamed_start renamed_mid
  renamed_touches =
      one_then_one c.as_str-2.result.now renamed_start renamed_made renamed_mid renamed_beside.touches
      (c.in_default.ensures.touches renamed_beside.touches.known c.as_str-2.result.now renamed_beside.is_open)

  renamed_filled : IsFilled c.args.text.now c.as_str-2.result.now renamed_mid
  renamed_filled =
      c.in_default.ensures.filled renamed_beside.touches.known c.as_str-2.result.now renamed_beside.is_open renamed_beside.empty

  renamed_exchange : IsExchange c.as_str-2.result.now c.args.target.now renamed_mid renamed_end
  renamed_exchange = c.exchange.ensures.exchange renamed_touches.known

  renamed_keeps : KeepsBut c.as_str-2.result.now c.args.target.now renamed_start renamed_end
  renamed_keeps =
      kept_exchanged c.as_str-2.result.now c.args.target.now renamed_start renamed_mid renamed_end renamed_touches
      renamed_exchange

pub returns-clause-crash : goal.returns-clause-crash
returns-clause-crash g c known =
    let at = (goal.at.returns-clause-crash g c).After-exchange in
    never_torn_exchanged _ c.args.target.now c.args.text.now _ _ _ (renamed_differs g at known) (renamed_touches g at known)
    (renamed_filled g at known) (renamed_exchange g at known)

pub returns-clause-whole : goal.returns-clause-whole
returns-clause-whole g c known on_disk =
    let at = (goal.at.returns-clause-whole g c).After-exchange in
    old_or_new c.args.target.now c.args.text.now _ _
    (never_torn_exchanged _ c.args.target.now c.args.text.now _ _ _ (renamed_differs g at known) (renamed_touches g at known)
    (renamed_filled g at known) (renamed_exchange g at known)) on_disk

pub returns-clause-done : goal.returns-clause-done
returns-clause-done g c known =
    let at = (goal.at.returns-clause-done g c).After-exchange in
    on_ok_by c.exchange.result (IsExchanged _ c.args.target.now (renamed_mid g at known) (renamed_end g at known))
    ((renamed_end g at known).holds c.args.target.now ≡ Some c.args.text.now)
    (done_exchanged _ c.args.target.now c.args.text.now _ _ _ (renamed_differs g at known) (renamed_touches g at known)
    (renamed_filled g at known)) (c.exchange.ensures.done (renamed_touches g at known).known)

pub returns-clause-durable : goal.returns-clause-durable
returns-clause-durable g c known =
    let at = (goal.at.returns-clause-durable g c).After-exchange in
    on_ok_by c.exchange.result (IsExchanged _ c.args.target.now (renamed_mid g at known) (renamed_end g at known))
    (IsLeft c.args.target.now c.args.text.now (renamed_end g at known))
    (left_exchanged _ c.args.target.now c.args.text.now _ _ _ (renamed_differs g at known) (renamed_touches g at known)
    (renamed_filled g at known)) (c.exchange.ensures.done (renamed_touches g at known).known)

pub returns-clause-failed : goal.returns-clause-failed
returns-clause-failed g c known =
    let at = (goal.at.returns-clause-failed g c).After-exchange in
    let start = renamed_start g at known in
    let mid = renamed_mid g at known in
    let end = renamed_end g at known in
    after_exchange c.exchange.result c.as_str-2.result.now c.args.target.now c.args.text.now (g.F.Folder.failures c.fill.new.folder)
    (g.F.Folder.failures c.exchange.new.folder) start mid end
    (either_exchanged c.as_str-2.result.now c.args.target.now c.args.text.now start mid end (renamed_differs g at known)
    (renamed_touches g at known) (renamed_filled g at known)) (renamed_filled g at known).full
    (c.exchange.ensures.failed (renamed_touches g at known).known)

pub returns-clause-taken : goal.returns-clause-taken
returns-clause-taken g c known =
    let at = (goal.at.returns-clause-taken g c).After-exchange in
    taken_kept c.args.target.now _ _ _ _ (renamed_beside g at known) (renamed_keeps g at known)

pub returns-clause-others : goal.returns-clause-others
returns-clause-others g c known =
    let at = (goal.at.returns-clause-others g c).After-exchange in
    others_kept c.args.target.now _ _ _ _ (renamed_beside g at known) (renamed_keeps g at known)

pub returns-clause-alone : goal.returns-clause-alone
returns-clause-alone g c known =
    let at = (goal.at.returns-clause-alone g c).After-exchange in
    on_ok_by c.exchange.result (IsExchanged _ c.args.target.now (renamed_mid g at known) (renamed_end g at known))
    (OthersHold c.args.target.now (renamed_start g at known) (renamed_end g at known))
    (λ exchanged. others_hold c.args.target.now _ _ _ _ (renamed_beside g at known) (renamed_keeps g at known) exchanged.gone)
    (c.exchange.ensures.done (renamed_touches g at known).known)

pub returns-clause-names_taken : goal.returns-clause-names_taken
returns-clause-names_taken g c known is =
    let at = (goal.at.returns-clause-names_taken g c).After-exchange in
    absurd
    (subst
    (λ (answer : Result (Unit {0}) ReplaceError).
    IfErr answer
    (IsExchangeError c.as_str-2.result.now c.args.target.now (g.F.Folder.failures c.fill.new.folder)
    (g.F.Folder.failures c.exchange.new.folder) (renamed_mid g at known) (renamed_end g at known))) is
    (c.exchange.ensures.failed (renamed_touches g at known).known))

pub returns-clause-removed : goal.returns-clause-removed
returns-clause-removed g c known =
    let at = (goal.at.returns-clause-removed g c).After-exchange in
    let start = renamed_start g at known in
    let end = renamed_end g at known in
    on_err_by c.exchange.result
    ((end.holds c.as_str-2.result.now ≡ None)
    ⊎ AreTwoFailed (g.F.Folder.failures c.fill.new.folder) (g.F.Folder.failures c.exchange.new.folder))
    (OthersHold c.args.target.now start end
    ⊎ AreTwoFailed (g.F.Folder.failures c.args.folder.now) (g.F.Folder.failures c.exchange.new.folder))
    (λ gone. ⊎_elim
    {C =
    OthersHold c.args.target.now start end
    ⊎ AreTwoFailed (g.F.Folder.failures c.args.folder.now) (g.F.Folder.failures c.exchange.new.folder)}
    (λ none.
    inl (others_hold c.args.target.now _ _ _ _ (renamed_beside g at known) (renamed_keeps g at known) none))
    (λ two. inr (two ∙ ap (λ (n : ℕ). min (n + 2) (2 ^ 64 - 1)) (c.in_default.ensures.counted ∙ c.in_ok-name.ensures.counted))) gone)
    (gone_or_two c.exchange.result c.as_str-2.result.now c.args.target.now (g.F.Folder.failures c.fill.new.folder)
    (g.F.Folder.failures c.exchange.new.folder) (renamed_mid g at known) end
    (c.exchange.ensures.failed (renamed_touches g at known).known))
