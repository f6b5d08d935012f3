-- Texts of chunks that formatting doesn't change.
use Rattle.std.proofs.Common.{◌≡◌, ◌++◌, ℕ, true, false, List, [], ◌∷◌, refl, sym, ap, ◌∙◌, append-nil}
use lib.Utf8.{encode, encodes}
use Rattle.std.specs.List.{list_all}
use Rattle.std.specs.Str.{chars, IsUtf8}
use Rattle.std.proofs.lemmas.Str.{encodes-chars}
use Rattle.bib_chunks.specs.Formatted.{flowing, is_unbroken}
use Rattle.bib_chunks.proofs.FormattedFacts.{flowing_run}
use Rattle.bib_csl.specs.Unmarked.{is_in_line}
use Rattle.bib_csl.proofs.ByteFacts.{not_this, both}

no_line_feed : list_all is_in_line (encode 10) ≡ false
unfolding encode
no_line_feed = refl

no_return : list_all is_in_line (encode 13) ≡ false
unfolding encode
no_return = refl

char_in_line : (c : ℕ) → list_all is_in_line (encode c) ≡ true → is_unbroken c ≡ true
char_in_line c good = rw (not_this is_in_line 10 c no_line_feed good) (rw (not_this is_in_line 13 c no_return good) refl)

all_in_line : (cs : List ℕ) → list_all is_in_line (encodes cs) ≡ true → list_all is_unbroken cs ≡ true
all_in_line [] h = refl
all_in_line (c ∷ cs) h = let p = both is_in_line c cs h in rw (char_in_line c p.0) (all_in_line cs p.1)

-- formatting doesn't change normal text without line breaks
pub normal_stands : (bs : List ℕ) → IsUtf8 bs → list_all is_in_line bs ≡ true → bs ≡ encodes (flowing false (chars bs) ++ [])
normal_stands bs utf8 h =
    let cs = chars bs in
    let spelt = encodes-chars bs utf8 in
    let same : flowing false cs ≡ cs =
    ap (flowing false) (sym (append-nil cs))
    ∙ flowing_run false cs [] (all_in_line cs (ap (list_all is_in_line) spelt ∙ h)) ∙ append-nil cs in
    sym (ap encodes (append-nil (flowing false cs) ∙ same) ∙ spelt)

-- verbatim text is the encoding of its characters
pub verbatim_stands : (bs : List ℕ) → IsUtf8 bs → bs ≡ encodes (chars bs ++ [])
verbatim_stands bs utf8 = sym (ap encodes (append-nil (chars bs)) ∙ encodes-chars bs utf8)
