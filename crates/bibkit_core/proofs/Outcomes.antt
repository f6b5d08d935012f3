-- Facts about a folder after one of its files is replaced.
use Rattle.std.proofs.Common.{◌≡◌, ◌≢◌, ◌⊎◌, inl, inr, ⊎_elim, ℕ, ◌<◌, ◌≤◌, List, Option, None, Some, IsSome, is_some, true, false, sym, ap, ◌∙◌, arith}
use Rattle.std.specs.Str.{bytes_eq}
use Rattle.std.proofs.lemmas.Bool.{cases_Bool}
use Rattle.std.proofs.lemmas.Slice.Eq.{bytes_eq-Decides}
use Rattle.bibkit_core.specs.Folder.{Disk, IsFileOf}
use Rattle.bibkit_core.specs.Replaced.{new_name, IsNeverTorn, IsOnDisk, IsOldOrNew, IsLeft, IsKept, OthersHold}
use Rattle.bibkit_core.specs.ReplaceSteps.{TouchesOnly, IsMadeBeside, IsFilled, IsExchange, IsExchanged}

-- two names are equal or different
cases_name : (one other : List ℕ) → (one ≡ other) ⊎ (one ≢ other)
cases_name one other = ⊎_elim
    (λ same. inl ((bytes_eq-Decides one other).0 same))
    (λ differ. inr (λ same. let is : bytes_eq one other ≡ true = (bytes_eq-Decides one other).1 same in cc))
    (cases_Bool (bytes_eq one other))

-- each name except `name` and `target` is kept
abbrev pub KeepsBut : List ℕ → List ℕ → Disk → Disk → Type 0
KeepsBut name target old new = (other : List ℕ) → other ≢ name → other ≢ target → IsKept other old new

-- calls that affect only `name` keep all names except `name` and `target`
pub kept_untouched : (name target : List ℕ) (old new : Disk) → TouchesOnly name old new → KeepsBut name target old new
kept_untouched name target old new touches other ne _ = record {
  holds = touches.others.holds other ne;
  crash = λ c left. touches.others.crash other c ne left;
}

-- calls that affect only the new file, followed by the exchange, keep all names except those of the new file and the target
pub kept_exchanged : (name target : List ℕ) (old mid new : Disk) → TouchesOnly name old mid
    → IsExchange name target mid new → KeepsBut name target old new
kept_exchanged name target old mid new touches exchange other ne not_target = record {
  holds = exchange.others other ne not_target ∙ touches.others.holds other ne;
  crash = λ c left. touches.others.crash other c ne (exchange.crash other c ne not_target left);
}

module _ (target name : List ℕ) (old made new : Disk) (beside : IsMadeBeside target name old made)
    (kept : KeepsBut name target old new) where
  -- a name other than the target that was in use isn't that of the new file, so it is kept
  pub taken_kept : (other : List ℕ) → other ≢ target → IsSome (old.holds other) → IsKept other old new
  taken_kept other not_target some =
      let differs : other ≢ name =
      λ same.
      (let free : old.holds other ≡ None = ap old.holds same ∙ beside.free in
      let none : is_some (old.holds other) ≡ false = ap is_some free in cc) in
      kept other differs not_target

  -- a name other than the target that isn't the name of a new file is kept
  pub others_kept : (other : List ℕ) → other ≢ target → ((k : ℕ) → k < 100 → other ≢ new_name target k) → IsKept other old new
  others_kept other not_target none = kept other (λ same. none beside.number beside.below (same ∙ beside.is_new)) not_target

  -- if the name of the new file has no file, each name except the target holds the same contents as before
  pub others_hold : new.holds name ≡ None → OthersHold target old new
  others_hold gone other not_target = ⊎_elim
      (λ same. ap new.holds same ∙ gone ∙ sym beside.free ∙ ap old.holds (sym same))
      (λ differs. (kept other differs not_target).holds)
      (cases_name other name)

-- if calls affect only a name other than the target, a crash leaves in the target contents that it could leave before, or the text
pub never_torn_untouched : (name target text : List ℕ) (old new : Disk) → name ≢ target → TouchesOnly name old new
    → IsNeverTorn target text old new
never_torn_untouched name target text old new differs touches = record {
  later = touches.later;
  since = λ c left. inl (old.only_now target c (past old.moment c (omega arith) left));
  earlier = λ t c le left. inl (past t c le left);
}
  where
    past : (t : ℕ) (c : Option (List ℕ)) → t ≤ old.moment → new.left_since t target c → old.left_since t target c
    past t c le left = touches.past t target c le (λ same. differs (sym same)) left

-- if the target was on the disk and `IsNeverTorn` holds, a crash leaves its old contents or all of the text
pub old_or_new : (target text : List ℕ) (old new : Disk) → IsNeverTorn target text old new → IsOnDisk target old
    → IsOldOrNew target text old new
old_or_new target text old new never on_disk c left = ⊎_elim (λ was. inl (on_disk c was)) (λ whole. inr whole) (never.since c left)

-- if all of the text is saved in the new file, a crash leaves it there, whatever names the file then has
file_is_whole : (name text : List ℕ) (disk : Disk) (c : Option (List ℕ)) → IsFilled text name disk → IsFileOf disk name c → c ≡ Some text
file_is_whole name text disk c filled file = file.whole ∙ sym (filled.saved file.bytes file.left) ∙ filled.full

module _ (name target text : List ℕ) (old mid new : Disk) (differs : name ≢ target) (touches : TouchesOnly name old mid)
    (filled : IsFilled text name mid) where
  -- `IsNeverTorn` holds for the target after the exchange with a file that has all of the text
  pub never_torn_exchanged : IsExchange name target mid new → IsNeverTorn target text old new
  never_torn_exchanged exchange = record {
    later = omega (arith, touches.later, exchange.later);
    since = λ c left. ⊎_elim (λ was. inl (old.only_now target c was)) (λ whole. inr whole) (earlier old.moment c (omega arith) left);
    earlier = earlier;
  }
    where
      earlier : (t : ℕ) (c : Option (List ℕ)) → t ≤ old.moment → new.left_since t target c → old.left_since t target c ⊎ (c ≡ Some text)
      earlier t c le left = ⊎_elim
          (λ was. inl (touches.past t target c le (λ same. differs (sym same)) was))
          (λ file. inr (file_is_whole name text mid c filled file))
          (exchange.past t c (omega (arith, le, touches.later)) left)

  -- after the rename is done, the target holds the text
  pub done_exchanged : IsExchanged name target mid new → new.holds target ≡ Some text
  done_exchanged exchanged = exchanged.moved ∙ filled.full

  -- after the rename is done, a crash leaves the text in the target
  pub left_exchanged : IsExchanged name target mid new → IsLeft target text new
  left_exchanged exchanged c left = file_is_whole name text mid c filled (exchanged.left (ap is_some filled.full) c left)

  -- if the target holds the file that it had before the exchange or the new file, it holds its old contents or the text
  pub either_exchanged : (new.holds target ≡ mid.holds target) ⊎ (new.holds target ≡ mid.holds name)
      → (new.holds target ≡ old.holds target) ⊎ (new.holds target ≡ Some text)
  either_exchanged either = ⊎_elim
      (λ same. inl (same ∙ touches.others.holds target (λ is. differs (sym is))))
      (λ moved. inr (moved ∙ filled.full))
      either
