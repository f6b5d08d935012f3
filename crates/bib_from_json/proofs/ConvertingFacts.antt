-- The entries that a text of JSON is converted to, and refusals.
use Rattle.std.proofs.Common.{◌≡◌, ◌≢◌, ◌∙◌, ◌↔◌, ℕ, List, [], ◌⊎◌, inl, inr, sym, ap, subst, Option, true, false, true≢false}
use Rattle.std.specs.Prelude.{is_some, IsNone, Ok}
use Rattle.bib_syntax.specs.declared.raw.ParseError.{ParseError}
use Rattle.bib_syntax.specs.declared.raw.ParseErrorKind.TheVariants as kind
use Rattle.bib_syntax.specs.Errors.{out_of_memory}
use Rattle.biblatex.specs.Headline.{IsAcceptedText, IsBibliographyOf, IsErrorOf}
use Rattle.biblatex.specs.Syntax.{Bibliography}
use Rattle.bib_entry.specs.declared.entry.Entry.{Entry}
use Rattle.bib_from_csl.specs.declared.losses.Loss.{Loss}
use Rattle.bib_from_json.specs.FromJson.{AreEntriesOfJson, AreNotWritable, IsEntriesRefusal, IsOfUnreadEntries, MayRefuseEntries}
use Rattle.bib_from_json.specs.GivenEntries.{entries_read}
use Rattle.bib_from_json.specs.SameEntries.{AreSameEntries}
use Rattle.bib_from_json.specs.WrittenSources.{entries_source}
use Rattle.bib_from_json.specs.declared.converting.EntriesError.{EntriesError}
use Rattle.bib_from_json.specs.declared.converting.EntriesError.TheVariants.{Refused, NotRead, OutOfMemory}
use Rattle.bib_from_json.specs.declared.given.GivenEntry.{GivenEntry}

pub made : (json text : List ℕ) (given : List GivenEntry) (bibliography : Bibliography) (losses : List Loss) → entries_read json ≡ Ok given
    → text ≡ entries_source given → IsBibliographyOf text bibliography → AreSameEntries given bibliography.entries → losses ≡ []
    → AreEntriesOfJson json (record { text = text; losses = losses })
made json text given bibliography losses of is read same none = record {
  given = given;
  of_json = of;
  text = is;
  bibliography = bibliography;
  read_again = read;
  same = same;
  losses = none;
}

pub unread_entries : (json text : List ℕ) (given : List GivenEntry) (error : ParseError) → entries_read json ≡ Ok given
    → text ≡ entries_source given → error.kind ≢ kind.OutOfMemory
    → (error ≡ out_of_memory) ⊎ (IsErrorOf text error × (IsAcceptedText text → ⊥)) → AreNotWritable json
unread_entries json text given error of is other (inl none) = absurd (other (ap (λ e. e.kind) none))
unread_entries json text given error of is other (inr both) = record {
  given = given;
  of_json = of;
  unread = inl (λ accepted. both.1 (subst IsAcceptedText (sym is) accepted));
}

pub unread_refused : (json : List ℕ) (e : EntriesError) → IsOfUnreadEntries json e → AreNotWritable json → MayRefuseEntries json e
unread_refused json (Refused r) is unread = IsEntriesRefusal.not_writable is unread
unread_refused json (NotRead e) is unread = unread
unread_refused json OutOfMemory is unread = tt

pub other_entries : (json text : List ℕ) (given : List GivenEntry) (bibliography : Bibliography) → entries_read json ≡ Ok given
    → text ≡ entries_source given → IsBibliographyOf text bibliography → (AreSameEntries given bibliography.entries → ⊥)
    → AreNotWritable json
other_entries json text given bibliography of is read others = record {
  given = given;
  of_json = of;
  unread = inr (record {
    bibliography = bibliography;
    read = subst (λ t. IsBibliographyOf t bibliography) is read;
    others = others;
  });
}

-- the comparison finds a fault exactly if the entries aren't the same
pub are_same : {F : Type 0} (fault : Option F) (given compared : List GivenEntry) (entries others : List Entry)
    → is_some fault ≡ false → (IsNone fault ↔ AreSameEntries compared others) → compared ≡ given → others ≡ entries
    → AreSameEntries given entries
are_same fault given compared entries others none finds is are =
    subst (λ l. AreSameEntries l entries) is (subst (AreSameEntries compared) are (finds.0 none))

pub not_same : {F : Type 0} (fault : Option F) (given compared : List GivenEntry) (entries others : List Entry)
    → is_some fault ≡ true → (IsNone fault ↔ AreSameEntries compared others) → compared ≡ given → others ≡ entries
    → AreSameEntries given entries → ⊥
not_same fault given compared entries others some finds is are same =
    true≢false
    (sym some
    ∙ finds.1 (subst (λ l. AreSameEntries l others) (sym is) (subst (AreSameEntries given) (sym are) same)))
