-- Texts with tags, character by character.
use Rattle.std.proofs.Common.{◌≡◌, ◌++◌, ℕ, Bool, true, false, List, [], ◌∷◌, Option, None, reverse, refl, sym, ap, ap₂, ◌∙◌, append_assoc}
use lib.Utf8.{encode, encodes}
use Rattle.std.specs.List.{list_all}
use Rattle.std.specs.Option.{unwrap_or}
use Rattle.std.specs.Str.{chars, IsUtf8}
use Rattle.std.proofs.lemmas.List.{reverse-append}
use Rattle.std.proofs.lemmas.Str.{encodes-chars}
use Rattle.bib_text.specs.Places.{Place, CharAt, AtEnd}
use Rattle.bib_text.proofs.TextFacts.{ahead, MovesPast, passed_char, chars_at_end}
use Rattle.bib_csl.specs.Markup.{untie, loosen, loosened, said, said_plainly, shown_in, is_address, open_plainly, begins_name, open_after, name_after, said_last, closing_tag, all_ended, marked_from, marked_text}
use Rattle.bib_csl.specs.Numbers.{follows_dash_after, page_sign, pages_from}
use Rattle.bib_csl.specs.Unmarked.{is_unmarked}
use Rattle.bib_csl.proofs.ByteFacts.{not_this, both}

-- the next character of a name is written
pub loosened_step : (out more total : List ℕ) {u x : Place} {c : ℕ} → CharAt u c x → IsUtf8 (ahead u) → more ≡ out ++ loosen c
    → out ++ loosened (chars (ahead u)) ≡ total → (x.text ≡ u.text) × IsUtf8 (ahead x) × (more ++ loosened (chars (ahead x)) ≡ total)
loosened_step out more total {u} {x} {c} char utf8 wrote before =
    let passed : MovesPast u (c ∷ []) x = passed_char char utf8 in (
      passed.same,
      passed.utf8,
      ap (λ o. o ++ loosened (chars (ahead x))) wrote ∙ append_assoc out (loosen c) (loosened (chars (ahead x)))
          ∙ ap (λ cs. out ++ loosened cs) (sym passed.spelt) ∙ before,
    )

-- at the end of a name, nothing is left to write
pub loosened_end : (out total : List ℕ) (u : Place) → AtEnd u → out ++ loosened (chars (ahead u)) ≡ total → out ++ [] ≡ total
loosened_end out total u end before = ap (λ cs. out ++ loosened cs) (sym (chars_at_end u end)) ∙ before

-- the next character of ranges of pages is written
pub pages_step : (out more total : List ℕ) (before after : Bool) {u x : Place} {c : ℕ} → CharAt u c x → IsUtf8 (ahead u)
    → more ≡ out ++ page_sign before c → after ≡ follows_dash_after before c
    → out ++ pages_from before (chars (ahead u)) ≡ total
    → (x.text ≡ u.text) × IsUtf8 (ahead x) × (more ++ pages_from after (chars (ahead x)) ≡ total)
pages_step out more total before after {u} {x} {c} char utf8 wrote goes given =
    let passed : MovesPast u (c ∷ []) x = passed_char char utf8 in
    let rest = pages_from (follows_dash_after before c) (chars (ahead x)) in (
      passed.same,
      passed.utf8,
      ap (λ b. more ++ pages_from b (chars (ahead x))) goes ∙ ap (λ o. o ++ rest) wrote
          ∙ append_assoc out (page_sign before c) rest
          ∙ ap (λ cs. out ++ pages_from before cs) (sym passed.spelt) ∙ given,
    )

-- at the end of ranges of pages, nothing is left to write
pub pages_end : (out total : List ℕ) (before : Bool) (u : Place) → AtEnd u
    → out ++ pages_from before (chars (ahead u)) ≡ total → out ++ [] ≡ total
pages_end out total before u end given = ap (λ cs. out ++ pages_from before cs) (sym (chars_at_end u end)) ∙ given

-- the next character of a text with tags is written
pub marked_step : (has_tags : Bool) (out more total : List ℕ) (tags next : List (List ℕ)) (name after : Option (List ℕ)) {u x : Place}
    {c : ℕ} → CharAt u c x → IsUtf8 (ahead u)
    → more ≡ out ++ said has_tags tags name c → next ≡ open_after tags name c → after ≡ name_after name c
    → out ++ marked_from has_tags tags name (chars (ahead u)) ≡ total
    → (x.text ≡ u.text) × IsUtf8 (ahead x) × (more ++ marked_from has_tags next after (chars (ahead x)) ≡ total)
marked_step has_tags out more total tags next name after {u} {x} {c} char utf8 wrote opened given_names before =
    let passed : MovesPast u (c ∷ []) x = passed_char char utf8 in
    let rest = marked_from has_tags (open_after tags name c) (name_after name c) (chars (ahead x)) in (
      passed.same,
      passed.utf8,
      ap₂ (λ t n. more ++ marked_from has_tags t n (chars (ahead x))) opened given_names ∙ ap (λ o. o ++ rest) wrote
          ∙ append_assoc out (said has_tags tags name c) rest
          ∙ ap (λ cs. out ++ marked_from has_tags tags name cs) (sym passed.spelt) ∙ before,
    )

-- at the end of a text with tags, only the command that is being read and the closing tags are left to write
pub marked_end : (has_tags : Bool) (out total : List ℕ) (tags : List (List ℕ)) (name : Option (List ℕ)) (u : Place) → AtEnd u
    → out ++ marked_from has_tags tags name (chars (ahead u)) ≡ total → out ++ said_last has_tags tags name ≡ total
marked_end has_tags out total tags name u end before =
    ap (λ cs. out ++ marked_from has_tags tags name cs) (sym (chars_at_end u end)) ∙ before

-- the closing tag of the innermost brace that is still open is written
pub ended_step : (has_tags : Bool) (out more total : List ℕ) (tag : List ℕ) (old new : List (List ℕ)) → old ≡ new ++ tag ∷ []
    → more ≡ out ++ unwrap_or (closing_tag has_tags tag) [] → out ++ all_ended has_tags (reverse old) ≡ total
    → more ++ all_ended has_tags (reverse new) ≡ total
ended_step has_tags out more total tag old new is wrote before =
    ap (λ o. o ++ all_ended has_tags (reverse new)) wrote
    ∙ append_assoc out (unwrap_or (closing_tag has_tags tag) []) (all_ended has_tags (reverse new))
    ∙ ap (λ l. out ++ all_ended has_tags l) (sym (ap reverse is ∙ reverse-append new (tag ∷ []))) ∙ before

-- the test `is_unmarked` fails for the backslash; the next lemmas state this for the braces and the tilde
no_backslash : list_all is_unmarked (encode 92) ≡ false
unfolding encode
no_backslash = refl

no_open_brace : list_all is_unmarked (encode 123) ≡ false
unfolding encode
no_open_brace = refl

no_close_brace : list_all is_unmarked (encode 125) ≡ false
unfolding encode
no_close_brace = refl

no_tilde : list_all is_unmarked (encode 126) ≡ false
unfolding encode
no_tilde = refl

-- a character whose bytes all pass this test is unchanged by `untie`
untie_same : (c : ℕ) → list_all is_unmarked (encode c) ≡ true → untie c ≡ encode c
unfolding untie
untie_same c good = rw (not_this is_unmarked 126 c no_tilde good) refl

said_same : (has_tags : Bool) (c : ℕ) → list_all is_unmarked (encode c) ≡ true → said has_tags [] None c ≡ encode c
unfolding said said_plainly shown_in is_address
said_same has_tags c good =
    rw (not_this is_unmarked 92 c no_backslash good)
    (rw (not_this is_unmarked 125 c no_close_brace good) (untie_same c good))

open_same : (c : ℕ) → list_all is_unmarked (encode c) ≡ true → open_after [] None c ≡ []
unfolding open_after open_plainly
open_same c good = rw (not_this is_unmarked 123 c no_open_brace good) (rw (not_this is_unmarked 125 c no_close_brace good) refl)

name_same : (c : ℕ) → list_all is_unmarked (encode c) ≡ true → name_after None c ≡ None
unfolding name_after begins_name
name_same c good = rw (not_this is_unmarked 92 c no_backslash good) refl

loosen_same : (c : ℕ) → list_all is_unmarked (encode c) ≡ true → loosen c ≡ encode c
unfolding loosen
loosen_same c good = rw (not_this is_unmarked 126 c no_tilde good) refl

loosened_same : (cs : List ℕ) → list_all is_unmarked (encodes cs) ≡ true → loosened cs ≡ encodes cs
loosened_same [] h = refl
loosened_same (c ∷ cs) h = let p = both is_unmarked c cs h in ap₂ (λ a b. a ++ b) (loosen_same c p.0) (loosened_same cs p.1)

marked_same : (has_tags : Bool) (cs : List ℕ) → list_all is_unmarked (encodes cs) ≡ true → marked_from has_tags [] None cs ≡ encodes cs
unfolding said_last
marked_same has_tags [] h = refl
marked_same has_tags (c ∷ cs) h =
    let p = both is_unmarked c cs h in
    ap₂ (λ a b. a ++ b) (said_same has_tags c p.0)
    (ap₂ (λ t n. marked_from has_tags t n cs) (open_same c p.0) (name_same c p.0) ∙ marked_same has_tags cs p.1)

-- a text whose bytes all pass this test is unchanged by `loosened`
pub loosened_stays : (bs : List ℕ) → IsUtf8 bs → list_all is_unmarked bs ≡ true → bs ≡ loosened (chars bs)
loosened_stays bs utf8 h =
    let spelt = encodes-chars bs utf8 in sym (loosened_same (chars bs) (ap (list_all is_unmarked) spelt ∙ h) ∙ spelt)

pub marked_stays : (has_tags : Bool) (bs : List ℕ) → IsUtf8 bs → list_all is_unmarked bs ≡ true → bs ≡ marked_text has_tags (chars bs)
unfolding marked_text
marked_stays has_tags bs utf8 h =
    let spelt = encodes-chars bs utf8 in sym (marked_same has_tags (chars bs) (ap (list_all is_unmarked) spelt ∙ h) ∙ spelt)
