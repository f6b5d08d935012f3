-- A piece with the delimiters of a style parses to the same piece, except for its span.
use Rattle.std.proofs.Common.{◌≡◌, ℕ, ◌+◌, ◌-◌, ◌≤◌, Bool, true, false, not, List, [], ◌∷◌, ◌++◌, length, codes, cond, refl, sym, ap, ◌∙◌, subst, arith}
use Rattle.std.specs.List.{ends_with}
use lib.Dec.{eqb}
use Rattle.bib_text.specs.Places.{Place, between}
use Rattle.bib_text.specs.Braces.{Parts, has_balanced_braces}
use Rattle.bib_text.proofs.BraceFacts.{ahead_parts}
use Rattle.bib_text.proofs.PlaceFacts.{ahead_char, ahead_run, before_char}
use Rattle.bib_syntax.specs.Reading.{Part, part, Piece}
use Rattle.bib_syntax.specs.Reading.Piece.{literal, abbreviation}
use Rattle.bib_syntax.specs.Grammar.{Braced, Identifier, NoDigit, Number, Quoted, QuotedParts, Element, longest}
use Rattle.bib_syntax.specs.Grammar.{Element as element}
use Rattle.bib_syntax.proofs.FieldFacts.{ahead_identifier, ahead_quoted_parts}
use Rattle.bib_syntax.proofs.WordFacts.{ahead_number}
use Rattle.edit_entries.specs.Documents.{in_braces}
use Rattle.edit_entries.specs.Edits.{moved_part, moved_piece}
use Rattle.edit_entries.proofs.GrammarFacts.{below_char, quoted_parts_there}
use Rattle.edit_entries.proofs.ZoneFacts.{char_back, inside_between, parts_there, there}
use Rattle.bib_text.proofs.BoolFacts.{and_true_right}
use Rattle.edit_format.specs.Delimited.{braced_in_style, can_stand_in_quotes, goes_in_braces, goes_in_quotes, has_quote, in_quotes, piece_as_written, quoted_in_style}
use Rattle.edit_format.specs.declared.style.Delimiters.{Delimiters}
use Rattle.edit_format.specs.declared.style.Delimiters.TheVariants.{Keep, Braces, Quotes}
use Rattle.edit_format.proofs.DelimiterFacts.{parts_of_quoted, quoted_of_parts}
use Rattle.edit_entries.proofs.ElementFacts.{Ending, NotOpened, before, brace_before, identifier_until, number_until, quote_before}
use Rattle.edit_entries.proofs.StandsFacts.{Stands, ascii, between_stands, copied_before, copy_frame, first_part, last_part, past}

-- ---- the output for a piece

number_written : (way : Delimiters) {u : Place} (v : Place) → NotOpened u → piece_as_written way u.text (literal (part u v)) ≡ between u v
number_written way {u} v opened =
    ap
    (λ b.
    cond b (braced_in_style way (between u v))
    (cond (ends_with eqb (before u) (codes "\"")) (quoted_in_style way (between u v)) (between u v)))
    opened.no_brace
    ∙ ap (λ b. cond b (quoted_in_style way (between u v)) (between u v)) opened.no_quote

braced_written : (way : Delimiters) {u v : Place} {p : Part} → (b : Braced u p v)
    → piece_as_written way u.text (literal p) ≡ braced_in_style way (between b.inside b.following)
braced_written way {u} {v} {p} b =
    let content = between b.inside b.following in
    ap (λ q. piece_as_written way u.text (literal q)) b.reading
    ∙ ap (λ t. piece_as_written way t (literal (part b.inside b.following))) (sym b.opens.same)
    ∙ ap
    (λ c.
    cond c (braced_in_style way content)
    (cond (ends_with eqb (before b.inside) (codes "\"")) (quoted_in_style way content) content))
    (brace_before b.opens)

quoted_written : (way : Delimiters) {u v : Place} {p : Part} → (q : Quoted u p v)
    → piece_as_written way u.text (literal p) ≡ quoted_in_style way (between q.inside q.following)
quoted_written way {u} {v} {p} q =
    let content = between q.inside q.following in
    let is = quote_before q.opens in
    ap (λ r. piece_as_written way u.text (literal r)) q.reading
    ∙ ap (λ t. piece_as_written way t (literal (part q.inside q.following))) (sym q.opens.same)
    ∙ ap
    (λ c.
    cond c (braced_in_style way content)
    (cond (ends_with eqb (before q.inside) (codes "\"")) (quoted_in_style way content) content)) is.0
    ∙ ap (λ c. cond c (quoted_in_style way content) content) is.1

-- a literal that the style rewrites in quotes stays in quotes if it is in quotes already
stays_quoted : (way : Delimiters) (content : List ℕ) → goes_in_quotes way content ≡ true → quoted_in_style way content ≡ in_quotes content
stays_quoted Keep content is = absurd (cc)
stays_quoted Braces content is = absurd (cc)
stays_quoted Quotes content is = refl

-- a literal that the style rewrites in braces stays in braces if it is in braces already
stays_braced : (way : Delimiters) (content : List ℕ) → goes_in_braces way content ≡ true → braced_in_style way content ≡ in_braces content
stays_braced Keep content is = absurd (cc)
stays_braced Braces content is = refl
stays_braced Quotes content is = absurd (cc)

can_be_quoted : (way : Delimiters) (content : List ℕ) → goes_in_quotes way content ≡ true → can_stand_in_quotes content ≡ true
can_be_quoted Keep content is = absurd (cc)
can_be_quoted Braces content is = absurd (cc)
can_be_quoted Quotes content is = and_true_right (not (has_quote content)) (can_stand_in_quotes content) is

can_be_braced : (way : Delimiters) (content : List ℕ) → goes_in_braces way content ≡ true → has_balanced_braces content ≡ true
can_be_braced Keep content is = absurd (cc)
can_be_braced Braces content is = is
can_be_braced Quotes content is = absurd (cc)

-- ---- a piece in another text

-- a piece of a text parses from its output in another text, and its output there is the same
pub record PieceRead (way : Delimiters) (text : List ℕ) (e : Piece) (u v : Place) : Type 0 where
  pub reading : Piece
  pub element : Element longest u reading v
  pub alike : moved_piece (λ n. 0) reading ≡ moved_piece (λ n. 0) e
  pub again : piece_as_written way u.text reading ≡ piece_as_written way text e

-- a literal with this content
literal_of : List ℕ → Piece
literal_of content = literal (record { text = content; start = 0; end = 0 })

-- the content of a braced literal parses in braces, if the style writes it so
made_braced : (way : Delimiters) (text : List ℕ) (p : Part) {a b u v : Place} → Parts a b → b.at ≤ length a.text
    → p.text ≡ between a b → piece_as_written way text (literal p) ≡ in_braces (between a b)
    → braced_in_style way (between a b) ≡ in_braces (between a b)
    → Stands u (in_braces (between a b)) v → PieceRead way text (literal p) u v
unfolding literal_of
made_braced way text p {a} {b} {u} {v} inner within says written stays s =
    let content = between a b in
    let opens = ascii 123 (omega arith) (first_part (123 ∷ []) (content ++ 125 ∷ []) s) in
    let s1 = last_part (123 ∷ []) (content ++ 125 ∷ []) s in
    let held = first_part content (125 ∷ []) s1 in
    let from = past u (123 ∷ []) in
    let to = past from content in
    let closes = ascii 125 (omega arith) (last_part content (125 ∷ []) s1) in
    let c = copied_before (ahead_parts inner) within held closes in
    let there_is : Parts from to =
    subst (λ x. Parts x to) c.goes_start
    (subst (λ x. Parts (there (copy_frame a b from) a) x) c.goes_end (parts_there c.zone c.start c.end inner)) in
    let braced : Braced u (part from to) v =
    record { inside = from; following = to; opens = opens; parts = there_is; closes = closes; reading = refl } in
    let bytes : between from to ≡ content = between_stands content held in
    record {
      reading = literal (part from to);
      element = element.braced braced;
      alike = ap literal_of (bytes ∙ sym says);
      again = braced_written way braced ∙ ap (braced_in_style way) bytes ∙ stays ∙ sym written;
    }

-- the content of a quoted literal parses in quotes, if the style writes it so
made_quoted : (way : Delimiters) (text : List ℕ) (p : Part) {a b u v : Place} → QuotedParts a b → b.at ≤ length a.text
    → p.text ≡ between a b → piece_as_written way text (literal p) ≡ in_quotes (between a b)
    → quoted_in_style way (between a b) ≡ in_quotes (between a b)
    → Stands u (in_quotes (between a b)) v → PieceRead way text (literal p) u v
unfolding literal_of
made_quoted way text p {a} {b} {u} {v} inner within says written stays s =
    let content = between a b in
    let opens = ascii 34 (omega arith) (first_part (34 ∷ []) (content ++ 34 ∷ []) s) in
    let s1 = last_part (34 ∷ []) (content ++ 34 ∷ []) s in
    let held = first_part content (34 ∷ []) s1 in
    let from = past u (34 ∷ []) in
    let to = past from content in
    let closes = ascii 34 (omega arith) (last_part content (34 ∷ []) s1) in
    let c = copied_before (ahead_quoted_parts inner) within held closes in
    let there_is : QuotedParts from to =
    subst (λ x. QuotedParts x to) c.goes_start
    (subst (λ x. QuotedParts (there (copy_frame a b from) a) x) c.goes_end
    (quoted_parts_there c.zone c.start c.end inner)) in
    let quoted : Quoted u (part from to) v =
    record { inside = from; following = to; opens = opens; parts = there_is; closes = closes; reading = refl } in
    let bytes : between from to ≡ content = between_stands content held in
    record {
      reading = literal (part from to);
      element = element.quoted quoted;
      alike = ap literal_of (bytes ∙ sym says);
      again = quoted_written way quoted ∙ ap (quoted_in_style way) bytes ∙ stays ∙ sym written;
    }

braced_read : (way : Delimiters) {a b u v : Place} {p : Part} → Braced a p b
    → Stands u (piece_as_written way a.text (literal p)) v → PieceRead way a.text (literal p) u v
braced_read way {a} {b} {u} {v} {p} x s = by_test (goes_in_quotes way content) refl
  where
    content : List ℕ
    content = between x.inside x.following

    within : x.following.at ≤ length x.inside.text
    within = before_char (ahead_parts x.parts) x.closes

    says : p.text ≡ content
    says = ap (λ q. q.text) x.reading

    by_test : (t : Bool) → goes_in_quotes way content ≡ t → PieceRead way a.text (literal p) u v
    by_test true is =
        let written = braced_written way x ∙ ap (λ c. cond c (in_quotes content) (in_braces content)) is in
        made_quoted way a.text p (quoted_of_parts x.parts within (can_be_quoted way content is)) within says written
        (stays_quoted way content is) (subst (λ t. Stands u t v) written s)
    by_test false is =
        let stays = ap (λ c. cond c (in_quotes content) (in_braces content)) is in
        let written = braced_written way x ∙ stays in
        made_braced way a.text p x.parts within says written stays (subst (λ t. Stands u t v) written s)

quoted_read : (way : Delimiters) {a b u v : Place} {p : Part} → Quoted a p b
    → Stands u (piece_as_written way a.text (literal p)) v → PieceRead way a.text (literal p) u v
quoted_read way {a} {b} {u} {v} {p} x s = by_test (goes_in_braces way content) refl
  where
    content : List ℕ
    content = between x.inside x.following

    within : x.following.at ≤ length x.inside.text
    within = before_char (ahead_quoted_parts x.parts) x.closes

    says : p.text ≡ content
    says = ap (λ q. q.text) x.reading

    by_test : (t : Bool) → goes_in_braces way content ≡ t → PieceRead way a.text (literal p) u v
    by_test true is =
        let written = quoted_written way x ∙ ap (λ c. cond c (in_braces content) (in_quotes content)) is in
        made_braced way a.text p (parts_of_quoted x.parts within (can_be_braced way content is)) within says written
        (stays_braced way content is) (subst (λ t. Stands u t v) written s)
    by_test false is =
        let stays = ap (λ c. cond c (in_braces content) (in_quotes content)) is in
        let written = quoted_written way x ∙ stays in
        made_quoted way a.text p x.parts within says written stays (subst (λ t. Stands u t v) written s)

number_read : (way : Delimiters) {a b u v : Place} → Number longest a b → NotOpened a → b.at ≤ length a.text
    → Stands u (piece_as_written way a.text (literal (part a b))) v → NotOpened u → Ending v
    → PieceRead way a.text (literal (part a b)) u v
unfolding literal_of
number_read way {a} {b} {u} {v} n opened within s opened' ending =
    let written = number_written way {u = a} b opened in
    let stands = subst (λ t. Stands u t v) written s in
    let c = copied_before (ahead_number n) within stands ending.here in
    let n' : Number longest u v =
    subst (λ x. Number longest x v) c.goes_start
    (subst (λ x. Number longest (there (copy_frame a b u) a) x) c.goes_end
    (number_until c.zone c.start c.end (subst Ending (sym c.goes_end) ending) n)) in
    let bytes : between u v ≡ between a b = between_stands (between a b) stands in
    record {
      reading = literal (part u v);
      element = element.number n';
      alike = ap literal_of bytes;
      again = number_written way {u = u} v opened' ∙ bytes ∙ sym written;
    }

name_read : (way : Delimiters) {a b u v : Place} {p : Part} → NoDigit a → Identifier longest a p b
    → b.at ≤ length a.text → Stands u p.text v → Ending v → PieceRead way a.text (abbreviation p) u v
name_read way {a} {b} {u} {v} {p} none i within s ending =
    let stands = subst (λ t. Stands u t v) (ap (λ q. q.text) i.reading) s in
    let c = copied_before (ahead_identifier i) within stands ending.here in
    let move = λ (n : ℕ). n - a.at + u.at in
    let is = inside_between c.zone c.start c.end (ahead_char i.here) (ahead_run i.rest.run) in
    let below = below_char is i.here in
    let x = identifier_until c.zone c.start c.end (subst Ending (sym c.goes_end) ending) i in
    let named : Element longest (there (copy_frame a b u) a) (abbreviation (moved_part move p))
    (there (copy_frame a b u) b) =
    element.named (λ d w char digit. none d _ (char_back c.zone c.start below char) digit) x in
    record {
      reading = abbreviation (moved_part move p);
      element =
          subst (λ q. Element longest q (abbreviation (moved_part move p)) v) c.goes_start
          (subst (λ q. Element longest (there (copy_frame a b u) a) (abbreviation (moved_part move p)) q) c.goes_end
          named);
      alike = refl;
      again = refl;
    }

pub piece_read : (way : Delimiters) {a b u v : Place} {e : Piece} → Element longest a e b → NotOpened a
    → b.at ≤ length a.text → Stands u (piece_as_written way a.text e) v → NotOpened u → Ending v
    → PieceRead way a.text e u v
piece_read way (element.number n) opened within s opened' ending = number_read way n opened within s opened' ending
piece_read way (element.named none i) opened within s opened' ending = name_read way none i within s ending
piece_read way (element.braced x) opened within s opened' ending = braced_read way x s
piece_read way (element.quoted x) opened within s opened' ending = quoted_read way x s
