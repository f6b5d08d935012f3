-- The entries that records are converted to, and refusals.
use Rattle.std.proofs.Common.{◌≡◌, ◌≢◌, ◌==◌, ℕ, true, false, List, [], length, ◌⊎◌, inl, inr, sym, ap, subst, ◌∙◌, arith, true≢false}
use Rattle.std.proofs.lemmas.Bool.Decides.{nat_tests}
use Rattle.std.proofs.lemmas.List.{nil_from_length}
use Rattle.bib_syntax.specs.declared.raw.ParseError.{ParseError}
use Rattle.bib_syntax.specs.declared.raw.ParseErrorKind.TheVariants as kind
use Rattle.bib_syntax.specs.Errors.{out_of_memory}
use Rattle.biblatex.specs.Headline.{IsAcceptedText, IsBibliographyOf, IsErrorOf}
use Rattle.biblatex.specs.Syntax.{Bibliography}
use Rattle.bib_from_csl.specs.declared.given.GivenItem.{GivenItem}
use Rattle.bib_from_csl.specs.declared.losses.Loss.{Loss}
use Rattle.bib_from_csl.specs.FromItems.{items_source}
use Rattle.bib_from_ris.specs.declared.converting.RisError.{RisError}
use Rattle.bib_from_ris.specs.declared.converting.RisError.TheVariants.{NoRecord, KeyTwice, NotRead, OutOfMemory}
use Rattle.bib_from_ris.specs.FromRis.{AreEntriesOfRis, AreUnreadRecords, IsOfUnreadRecords, MayRefuseRis, losses_with}
use Rattle.bib_from_ris.specs.RisItems.{ris_items, ris_sections}

pub made : (ris text : List ℕ) (bibliography : Bibliography) (losses : List Loss) → ris_items ris ≢ []
    → text ≡ items_source (ris_items ris)
    → IsBibliographyOf text bibliography → losses ≡ losses_with (ris_sections ris) (ris_items ris) bibliography.entries
    → AreEntriesOfRis ris (record { text = text; losses = losses })
made ris text bibliography losses has is read lost = record {
  has_record = has;
  text = is;
  bibliography = bibliography;
  read_again = read;
  losses = lost;
}

-- items are none if their number is 0, and only then
pub no_items : (items : List GivenItem) → (length items == 0) ≡ true → items ≡ []
no_items items is = nil_from_length items (grind (arith, nat_tests))

pub some_items : (items : List GivenItem) → (length items == 0) ≡ false → items ≢ []
some_items items is none = true≢false (sym (ap (λ l. length l == 0) none) ∙ is)

pub unread_records : (ris text : List ℕ) (error : ParseError) → text ≡ items_source (ris_items ris)
    → error.kind ≢ kind.OutOfMemory → (error ≡ out_of_memory) ⊎ (IsErrorOf text error × (IsAcceptedText text → ⊥))
    → AreUnreadRecords ris
unread_records ris text error is other (inl none) = absurd (other (ap (λ e. e.kind) none))
unread_records ris text error is other (inr both) = λ accepted. both.1 (subst IsAcceptedText (sym is) accepted)

pub unread_refused : (ris : List ℕ) (e : RisError) → IsOfUnreadRecords e → AreUnreadRecords ris → MayRefuseRis ris e
unread_refused ris NoRecord is unread = absurd is
unread_refused ris (KeyTwice index) is unread = unread
unread_refused ris (NotRead e) is unread = unread
unread_refused ris OutOfMemory is unread = tt
