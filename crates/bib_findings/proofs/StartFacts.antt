-- Raw entries by the offsets at which they begin.
use Rattle.std.proofs.Common.{◌≡◌, ℕ, Bool, true, false, List, [], ◌∷◌, ◌++◌, Option, Some, None, refl, sym, ap, ◌∙◌, cond, nat_eq}
use Rattle.std.specs.Prelude.{is_some, option_map}
use Rattle.std.specs.Borrow.{Bor}
use Rattle.std.specs.BTreeMap.{BTreeMap, Updates, get}
use Rattle.std.specs.Ordering.{nat_cmp}
use Rattle.bib_syntax.specs.Reading.{EntryReading}
use Rattle.bib_syntax.specs.Views.{entry_reading_of}
use Rattle.bib_syntax.specs.declared.raw.RawEntry.{RawEntry}
use Rattle.bib_text.specs.declared.spanned.Spanned.{Spanned}
use Rattle.bib_dates.specs.OrderLaws.{nat_is}
use Rattle.bib_findings.specs.Cuts.{entry_from}
use Rattle.bib_findings.specs.Starts.{AreEntriesByStart}
use Rattle.bib_findings.proofs.KeyFacts.{find_more, or_none, or_other}
use Rattle.bib_findings.proofs.NotedFacts.{apart}

-- the reading of a stored entry
abbrev seen : Bor (Spanned RawEntry) → EntryReading
seen e = entry_reading_of e.now

-- a value that is there comes before any other one
or_known : {A : Type 0} (first other : Option A) → is_some first ≡ true → first ≡ or_other first other
or_known (Some a) other is = refl
or_known None other is = absurd (let clash : false ≡ true = is in cc)

seen_some : (e : Option (Bor (Spanned RawEntry))) → is_some e ≡ true → is_some (option_map seen e) ≡ true
seen_some (Some e) is = refl
seen_some None is = is

-- if an earlier entry begins where the next one begins, the map needs no change
pub starts_same : (entries : BTreeMap ℕ (Bor (Spanned RawEntry))) (earlier : List EntryReading) (said : EntryReading)
    → AreEntriesByStart entries earlier → is_some (get nat_cmp entries said.start) ≡ true
    → AreEntriesByStart entries (earlier ++ said ∷ [])
starts_same entries earlier said are known start =
    are start ∙ by (nat_eq start said.start) refl ∙ sym (find_more (λ e. nat_eq start e.start) earlier said)
  where
    by : (b : Bool) → nat_eq start said.start ≡ b
        → entry_from earlier start ≡ or_other (entry_from earlier start) (cond (nat_eq start said.start) (Some said) None)
    by true same =
        let is : start ≡ said.start = nat_is start said.start same in
        or_known (entry_from earlier start) (cond (nat_eq start said.start) (Some said) None)
        (ap is_some (sym (are start)) ∙ ap (λ n. is_some (option_map seen (get nat_cmp entries n))) is
        ∙ seen_some (get nat_cmp entries said.start) known)
    by false other =
        sym
        (ap (λ b. or_other (entry_from earlier start) (cond b (Some said) None)) other
        ∙ or_none (entry_from earlier start))

-- storing an entry at a new start adds it
pub starts_more : (old new : BTreeMap ℕ (Bor (Spanned RawEntry))) (earlier : List EntryReading) (said : EntryReading)
    (one : Bor (Spanned RawEntry)) → AreEntriesByStart old earlier → is_some (get nat_cmp old said.start) ≡ false
    → entry_reading_of one.now ≡ said → Updates nat_cmp old new said.start (Some one) → AreEntriesByStart new (earlier ++ said ∷ [])
starts_more old new earlier said one are none one_is updates start =
    by (nat_eq start said.start) refl ∙ sym (find_more (λ e. nat_eq start e.start) earlier said)
  where
    gone : (stored : Option (Bor (Spanned RawEntry))) → is_some stored ≡ false → stored ≡ None
    gone None is = refl
    gone (Some k) is = absurd (let clash : true ≡ false = is in cc)

    by : (b : Bool) → nat_eq start said.start ≡ b
        → option_map seen (get nat_cmp new start)
        ≡ or_other (entry_from earlier start) (cond (nat_eq start said.start) (Some said) None)
    by true same =
        let is : start ≡ said.start = nat_is start said.start same in
        ap (λ n. option_map seen (get nat_cmp new n)) is ∙ ap (option_map seen) updates.1 ∙ ap Some one_is
        ∙ sym
        (ap (λ b. or_other (entry_from earlier start) (cond b (Some said) None)) same
        ∙ ap (λ o. or_other o (Some said))
        (sym (are start) ∙ ap (λ n. option_map seen (get nat_cmp old n)) is
        ∙ ap (option_map seen) (gone (get nat_cmp old said.start) none)))
    by false other =
        ap (option_map seen) (updates.2 start (apart said.start start other)) ∙ are start
        ∙ sym
        (ap (λ b. or_other (entry_from earlier start) (cond b (Some said) None)) other
        ∙ or_none (entry_from earlier start))
