-- The entries that items are converted to, and refusals.
use Rattle.std.proofs.Common.{◌≡◌, ◌≢◌, ℕ, List, ◌⊎◌, inl, inr, sym, ap, subst}
use Rattle.bib_syntax.specs.declared.raw.ParseError.{ParseError}
use Rattle.bib_syntax.specs.declared.raw.ParseErrorKind.TheVariants as kind
use Rattle.bib_syntax.specs.Errors.{out_of_memory}
use Rattle.biblatex.specs.Headline.{IsAcceptedText, IsBibliographyOf, IsErrorOf}
use Rattle.biblatex.specs.Syntax.{Bibliography}
use Rattle.bib_from_csl.specs.declared.converting.ItemsError.{ItemsError}
use Rattle.bib_from_csl.specs.declared.converting.ItemsError.TheVariants.{Refused as refused, NotRead, OutOfMemory}
use Rattle.bib_from_csl.specs.declared.given.GivenItem.{GivenItem}
use Rattle.bib_from_csl.specs.declared.losses.Loss.{Loss}
use Rattle.bib_from_csl.specs.declared.reading.ItemsReading.TheVariants.{Are}
use Rattle.bib_from_csl.specs.FromCsl.{AreEntriesOf, AreUnreadItems, IsItemsRefusal, IsOfUnreadItems, MayRefuseItems}
use Rattle.bib_from_csl.specs.FromItems.{items_source}
use Rattle.bib_from_csl.specs.GivenItems.{items_read}
use Rattle.bib_from_csl.specs.Losses.{all_losses}

pub made : (json text : List ℕ) (items : List GivenItem) (bibliography : Bibliography) (losses : List Loss)
    → items_read json ≡ Are items → text ≡ items_source items
    → IsBibliographyOf text bibliography → losses ≡ all_losses items bibliography.entries
    → AreEntriesOf json (record { text = text; losses = losses })
made json text items bibliography losses of is read lost = record {
  items = items;
  of_json = of;
  text = is;
  bibliography = bibliography;
  read_again = read;
  losses = lost;
}

pub unread_items : (json text : List ℕ) (items : List GivenItem) (error : ParseError) → items_read json ≡ Are items
    → text ≡ items_source items → error.kind ≢ kind.OutOfMemory
    → (error ≡ out_of_memory) ⊎ (IsErrorOf text error × (IsAcceptedText text → ⊥)) → AreUnreadItems json
unread_items json text items error of is other (inl none) = absurd (other (ap (λ e. e.kind) none))
unread_items json text items error of is other (inr both) = record {
  items = items;
  of_json = of;
  unread = λ accepted. both.1 (subst IsAcceptedText (sym is) accepted);
}

pub unread_refused : (json : List ℕ) (e : ItemsError) → IsOfUnreadItems json e → AreUnreadItems json → MayRefuseItems json e
unread_refused json (refused r) is unread = IsItemsRefusal.key_twice is.0 is.1 unread
unread_refused json (NotRead e) is unread = unread
unread_refused json OutOfMemory is unread = tt
