-- Facts about sets of names.
use Rattle.std.proofs.Common.{◌≡◌, ◌+◌, ◌||◌, ℕ, Bool, true, false, cond, List, [], ◌∷◌, ◌++◌, refl, sym, ap, ap₂, ◌∙◌, append-nil}
use Rattle.std.specs.List.{list_any}
use Rattle.std.proofs.lemmas.List.Concat.{flat_map-append}
use Rattle.std.proofs.lemmas.List.Folds.{list_any-append}
use Rattle.bib_text.proofs.ListFacts.{any_same}
use Rattle.bib_syntax.specs.Reading.{EntryReading}
use Rattle.bib_syntax.specs.Grammar.{is_word}
use Rattle.bib_queries.specs.Known.{all_names}
use Rattle.bib_queries.specs.Names.{entry_names}
use Rattle.bib_text.proofs.BoolFacts.{or_turned}
use Rattle.edit_entries.specs.NameSets.{AreNamesOf, holds_name}
use Rattle.edit_entries.specs.NewNames.{has_word, shares_name}

pub or_after : (b x y : Bool) → cond b true (x || y) ≡ (cond b true x || y)
or_after true x y = refl
or_after false x y = refl

word_more : (entries : List EntryReading) (e : EntryReading) (name : List ℕ)
    → has_word (all_names (entries ++ e ∷ [])) name ≡ (has_word (entry_names e) name || has_word (all_names entries) name)
word_more entries e name =
    let names : all_names (entries ++ e ∷ []) ≡ all_names entries ++ entry_names e =
    flat_map-append entry_names entries (e ∷ []) ∙ ap (λ l. all_names entries ++ l) (append-nil (entry_names e)) in
    ap (λ l. has_word l name) names
    ∙ list_any-append (λ own. is_word own name) (all_names entries) (entry_names e)
    ∙ or_turned (has_word (all_names entries) name) (has_word (entry_names e) name)

-- if the names of one more entry are added to the set of the names of some entries, it is that of all of them
pub names_more : (entries : List EntryReading) (e : EntryReading) (names : List (List ℕ)) (old new : List ℕ → Bool)
    → names ≡ entry_names e → AreNamesOf entries old
    → ((name : List ℕ) → holds_name new name ≡ (has_word names name || holds_name old name))
    → AreNamesOf (entries ++ e ∷ []) new
names_more entries e names old new same are added name =
    added name
    ∙ ap₂ (λ a b. a || b) (ap (λ l. has_word l name) same) (are name)
    ∙ sym (word_more entries e name)

-- a set of the names of entries contains a name of an entry exactly if it shares one with them
pub shared : (entries : List EntryReading) (e : EntryReading) (names : List (List ℕ)) (has : List ℕ → Bool)
    → names ≡ entry_names e → AreNamesOf entries has → list_any (holds_name has) names ≡ shares_name entries e
shared entries e names has same are =
    any_same (holds_name has) (has_word (all_names entries)) are names ∙ ap (list_any (has_word (all_names entries))) same
