-- Entries that share an identity share a mark.
use Rattle.std.proofs.Common.{◌≡◌, ℕ, Bool, true, false, not, List, [], ◌∷◌, ◌++◌, ◌==◌, ◌||◌, length, Some, None, refl, sym, ap, ◌∙◌, subst, arith, cond, nat_eq, get_or, inl, inr}
use mathlib.Core.Logic.{◌⊎◌, ⊎_elim}
use Rattle.std.specs.Prelude.{bytes_eq, codes}
use Rattle.std.specs.List.{list_any}
use Rattle.std.specs.Option.{option_to_list}
use Rattle.std.specs.Hash.FoldHasher.{finish, initial, write}
use Rattle.std.proofs.lemmas.Bool.Decides.{nat_tests}
use Rattle.std.proofs.lemmas.List.Folds.{list_any-append}
use Rattle.std.proofs.lemmas.List.Sums.{take_while-cons}
use Rattle.std.proofs.lemmas.Slice.Eq.{bytes_eq-Decides}
use Rattle.bib_syntax.specs.Reading.{EntryReading}
use Rattle.bib_text.specs.Characters as char
use Rattle.bib_findings.specs.Identities.{doi_of, has_identity, identities, identity, isbn_of, title_of, work_of, work_text}
use Rattle.bib_findings.specs.Marks.{before_brace, listed, mark, marks_of}
use Rattle.std.proofs.lemmas.Bool.{or_cases, or_right, or_left}

pub same_number : (one : ℕ) → nat_eq one one ≡ true
same_number one = grind (arith, nat_tests)

-- a brace and the text after it don't change the text before the first brace
before_cut : (text rest : List ℕ) → before_brace (text ++ char.open_brace ∷ rest) ≡ before_brace text
before_cut [] rest = take_while-cons (λ b. not (b == char.open_brace)) char.open_brace rest
before_cut (c ∷ text) rest =
    take_while-cons (λ b. not (b == char.open_brace)) c (text ++ char.open_brace ∷ rest)
    ∙ ap (λ l. cond (not (c == char.open_brace)) (c ∷ l) []) (before_cut text rest)
    ∙ sym (take_while-cons (λ b. not (b == char.open_brace)) c text)

-- if the identity of a kind passes a test, its text isn't empty and the kind with the text passes
pub in_identity : (test : List ℕ → Bool) (kind text : List ℕ) → list_any test (identity kind text) ≡ true
    → (test (kind ++ text) ≡ true) × ((length text == 0) ≡ false)
in_identity test kind text is = by (length text == 0) refl
  where
    sole : (p : Bool) → (p || false) ≡ true → p ≡ true
    sole true is = refl
    sole false is = is

    by : (none : Bool) → (length text == 0) ≡ none → (test (kind ++ text) ≡ true) × ((length text == 0) ≡ false)
    by true none = absurd (let clash : false ≡ true = sym (ap (λ b. list_any test (cond b [] ((kind ++ text) ∷ []))) none) ∙ is in cc)
    by false some = (
      sole (test (kind ++ text)) (sym (ap (λ b. list_any test (cond b [] ((kind ++ text) ∷ []))) some) ∙ is),
      some,
    )

-- which of the three identities of an entry passes a test
data OfKind (test : List ℕ → Bool) (said : EntryReading) : Type 0 where
  is_doi : test (codes "doi " ++ doi_of said) ≡ true → (length (doi_of said) == 0) ≡ false → OfKind test said
  is_isbn : test (codes "isbn " ++ isbn_of said) ≡ true → (length (isbn_of said) == 0) ≡ false → OfKind test said
  is_work : test (codes "work " ++ work_of said) ≡ true → (length (work_of said) == 0) ≡ false → OfKind test said

kind_of : (test : List ℕ → Bool) (said : EntryReading) → list_any test (identities said) ≡ true → OfKind test said
kind_of test said is =
    let dois = identity (codes "doi ") (doi_of said) in
    let isbns = identity (codes "isbn ") (isbn_of said) in
    let works = identity (codes "work ") (work_of said) in
    ⊎_elim (λ p. let it = in_identity test (codes "doi ") (doi_of said) p in is_doi it.0 it.1)
    (λ q. ⊎_elim (λ p. let it = in_identity test (codes "isbn ") (isbn_of said) p in is_isbn it.0 it.1)
    (λ p. let it = in_identity test (codes "work ") (work_of said) p in is_work it.0 it.1)
    (or_cases (list_any test isbns) (list_any test works) (sym (list_any-append test isbns works) ∙ q)))
    (or_cases (list_any test dois) (list_any test (isbns ++ works)) (sym (list_any-append test dois (isbns ++ works)) ∙ is))

-- the text after its first four bytes
abbrev after_four : List ℕ → List ℕ
after_four (a ∷ b ∷ c ∷ d ∷ rest) = rest
after_four _ = []

abbrev after_five : List ℕ → List ℕ
after_five (a ∷ b ∷ c ∷ d ∷ e ∷ rest) = rest
after_five _ = []

-- whether an entry has this mark
abbrev pub HasMark : EntryReading → ℕ → Type 0
HasMark said one = list_any (nat_eq one) (listed (marks_of said)) ≡ true

abbrev hash : List ℕ → List ℕ → ℕ
hash kind text = finish (write (write initial kind) (before_brace text))

marked : (kind text : List ℕ) → (length text == 0) ≡ false → list_any (nat_eq (hash kind text)) (option_to_list (mark kind text)) ≡ true
marked kind text some =
    ap (λ b. list_any (nat_eq (hash kind text)) (option_to_list (cond b None (Some (hash kind text))))) some
    ∙ or_left (nat_eq (hash kind text) (hash kind text)) false (same_number (hash kind text))

among_three : (one : ℕ) (a b c : List ℕ)
    → (list_any (nat_eq one) a ≡ true) ⊎ ((list_any (nat_eq one) b ≡ true) ⊎ (list_any (nat_eq one) c ≡ true))
    → list_any (nat_eq one) (a ++ (b ++ c)) ≡ true
among_three one a b c here =
    list_any-append (nat_eq one) a (b ++ c) ∙ ⊎_elim (λ p. or_left (list_any (nat_eq one) a) (list_any (nat_eq one) (b ++ c)) p)
    (λ q.
    or_right (list_any (nat_eq one) a) (list_any (nat_eq one) (b ++ c))
    (list_any-append (nat_eq one) b c
    ∙ ⊎_elim (λ p. or_left (list_any (nat_eq one) b) (list_any (nat_eq one) c) p)
    (λ p. or_right (list_any (nat_eq one) b) (list_any (nat_eq one) c) p) q)) here

doi_mark : (said : EntryReading) → (length (doi_of said) == 0) ≡ false → HasMark said (hash (codes "doi ") (doi_of said))
doi_mark said some =
    among_three (hash (codes "doi ") (doi_of said)) (option_to_list (mark (codes "doi ") (doi_of said)))
    (option_to_list (mark (codes "isbn ") (isbn_of said))) (option_to_list (mark (codes "work ") (title_of said)))
    (inl (marked (codes "doi ") (doi_of said) some))

isbn_mark : (said : EntryReading) → (length (isbn_of said) == 0) ≡ false → HasMark said (hash (codes "isbn ") (isbn_of said))
isbn_mark said some =
    among_three (hash (codes "isbn ") (isbn_of said)) (option_to_list (mark (codes "doi ") (doi_of said)))
    (option_to_list (mark (codes "isbn ") (isbn_of said))) (option_to_list (mark (codes "work ") (title_of said)))
    (inr (inl (marked (codes "isbn ") (isbn_of said) some)))

title_mark : (said : EntryReading) → (length (title_of said) == 0) ≡ false → HasMark said (hash (codes "work ") (title_of said))
title_mark said some =
    among_three (hash (codes "work ") (title_of said)) (option_to_list (mark (codes "doi ") (doi_of said)))
    (option_to_list (mark (codes "isbn ") (isbn_of said))) (option_to_list (mark (codes "work ") (title_of said)))
    (inr (inr (marked (codes "work ") (title_of said) some)))

-- if the text of title, person and year isn't empty, the title isn't empty and the three are joined by `{`
work_is : (title person year : List ℕ) → (length (work_text title person year) == 0) ≡ false
    → ((length title == 0) ≡ false) × (work_text title person year ≡ title ++ (codes "{" ++ (person ++ (codes "{" ++ year))))
work_is title person year some = by (length title == 0) (length person == 0) (length year == 0) refl refl refl
  where
    whole : List ℕ
    whole = title ++ (codes "{" ++ (person ++ (codes "{" ++ year)))

    by : (t p y : Bool) → (length title == 0) ≡ t → (length person == 0) ≡ p → (length year == 0) ≡ y
        → ((length title == 0) ≡ false) × (work_text title person year ≡ whole)
    by false false false no_t no_p no_y = (
      no_t,
      ap (λ b. cond (b || length person == 0 || length year == 0) [] whole) no_t
          ∙ ap (λ b. cond (b || length year == 0) [] whole) no_p ∙ ap (λ b. cond b [] whole) no_y,
    )
    by true p y is_t is_p is_y =
        absurd
        (let clash : true ≡ false =
        sym (ap (λ b. length (cond (b || length person == 0 || length year == 0) [] whole) == 0) is_t) ∙ some in
        cc)
    by false true y is_t is_p is_y =
        absurd
        (let clash : true ≡ false =
        sym
        (ap (λ b. length (cond (b || length person == 0 || length year == 0) [] whole) == 0) is_t
        ∙ ap (λ b. length (cond (b || length year == 0) [] whole) == 0) is_p) ∙ some in
        cc)
    by false false true is_t is_p is_y =
        absurd
        (let clash : true ≡ false =
        sym
        (ap (λ b. length (cond (b || length person == 0 || length year == 0) [] whole) == 0) is_t
        ∙ ap (λ b. length (cond (b || length year == 0) [] whole) == 0) is_p
        ∙ ap (λ b. length (cond b [] whole) == 0) is_y) ∙ some in
        cc)

title_of_work : (title person year : List ℕ) → (length (work_text title person year) == 0) ≡ false
    → before_brace (work_text title person year) ≡ before_brace title
title_of_work title person year some = ap before_brace (work_is title person year some).1 ∙ before_cut title (person ++ (codes "{" ++ year))

-- a mark that two entries have in common
pub record ShareMark (one other : EntryReading) : Type 0 where
  pub mark : ℕ
  pub of_one : HasMark one mark
  pub of_other : HasMark other mark

-- two entries that share an identity share a mark
shared_with : (one other : EntryReading) → OfKind (λ id. has_identity id one) other → ShareMark one other
shared_with one other (is_doi has some) = by (kind_of (bytes_eq (codes "doi " ++ doi_of other)) one has)
  where
    by : OfKind (bytes_eq (codes "doi " ++ doi_of other)) one → ShareMark one other
    by (is_doi same others) =
        let text : doi_of other ≡ doi_of one =
        ap after_four ((bytes_eq-Decides (codes "doi " ++ doi_of other) (codes "doi " ++ doi_of one)).0 same) in
        record {
          mark = hash (codes "doi ") (doi_of one);
          of_one = doi_mark one others;
          of_other = subst (λ t. HasMark other (hash (codes "doi ") t)) text (doi_mark other some);
        }
    by (is_isbn same others) =
        absurd
        (let clash : 100 ≡ 105 =
        ap (λ l. get_or l 0 0)
        ((bytes_eq-Decides (codes "doi " ++ doi_of other) (codes "isbn " ++ isbn_of one)).0 same) in
        omega (arith, clash))
    by (is_work same others) =
        absurd
        (let clash : 100 ≡ 119 =
        ap (λ l. get_or l 0 0)
        ((bytes_eq-Decides (codes "doi " ++ doi_of other) (codes "work " ++ work_of one)).0 same) in
        omega (arith, clash))
shared_with one other (is_isbn has some) = by (kind_of (bytes_eq (codes "isbn " ++ isbn_of other)) one has)
  where
    by : OfKind (bytes_eq (codes "isbn " ++ isbn_of other)) one → ShareMark one other
    by (is_isbn same others) =
        let text : isbn_of other ≡ isbn_of one =
        ap after_five ((bytes_eq-Decides (codes "isbn " ++ isbn_of other) (codes "isbn " ++ isbn_of one)).0 same) in
        record {
          mark = hash (codes "isbn ") (isbn_of one);
          of_one = isbn_mark one others;
          of_other = subst (λ t. HasMark other (hash (codes "isbn ") t)) text (isbn_mark other some);
        }
    by (is_doi same others) =
        absurd
        (let clash : 105 ≡ 100 =
        ap (λ l. get_or l 0 0)
        ((bytes_eq-Decides (codes "isbn " ++ isbn_of other) (codes "doi " ++ doi_of one)).0 same) in
        omega (arith, clash))
    by (is_work same others) =
        absurd
        (let clash : 105 ≡ 119 =
        ap (λ l. get_or l 0 0)
        ((bytes_eq-Decides (codes "isbn " ++ isbn_of other) (codes "work " ++ work_of one)).0 same) in
        omega (arith, clash))
shared_with one other (is_work has some) = by (kind_of (bytes_eq (codes "work " ++ work_of other)) one has)
  where
    by : OfKind (bytes_eq (codes "work " ++ work_of other)) one → ShareMark one other
    by (is_work same others) =
        let text : work_of other ≡ work_of one =
        ap after_five ((bytes_eq-Decides (codes "work " ++ work_of other) (codes "work " ++ work_of one)).0 same) in
        let title : before_brace (title_of other) ≡ before_brace (title_of one) =
        sym (title_of_work (title_of other) _ _ some) ∙ ap before_brace text
        ∙ title_of_work (title_of one) _ _ others in
        record {
          mark = hash (codes "work ") (title_of one);
          of_one = title_mark one (work_is (title_of one) _ _ others).0;
          of_other =
              subst (HasMark other) (ap (λ t. finish (write (write initial (codes "work ")) t)) title)
              (title_mark other (work_is (title_of other) _ _ some).0);
        }
    by (is_doi same others) =
        absurd
        (let clash : 119 ≡ 100 =
        ap (λ l. get_or l 0 0)
        ((bytes_eq-Decides (codes "work " ++ work_of other) (codes "doi " ++ doi_of one)).0 same) in
        omega (arith, clash))
    by (is_isbn same others) =
        absurd
        (let clash : 119 ≡ 105 =
        ap (λ l. get_or l 0 0)
        ((bytes_eq-Decides (codes "work " ++ work_of other) (codes "isbn " ++ isbn_of one)).0 same) in
        omega (arith, clash))

pub share_mark : (one other : EntryReading) → list_any (λ id. has_identity id one) (identities other) ≡ true → ShareMark one other
share_mark one other is = shared_with one other (kind_of (λ id. has_identity id one) other is)
