-- Citations, collected from one piece of a file after another.
use Rattle.std.proofs.Common.{◌≡◌, ◌≤◌, ◌<◌, ◌+◌, ◌||◌, ℕ, zero, suc, Bool, true, false, cond, List, [], ◌∷◌, ◌++◌, drop, take, map, length, Option, Some, None, MatchOption, refl, sym, ap, ap₂, subst, ◌∙◌, arith, append_assoc, append-nil}
use Rattle.std.specs.Prelude.{bytes_eq, codes, fold, is_some}
use Rattle.std.specs.Borrow.{Bor}
use Rattle.std.specs.List.{flat_map, list_any, slice_split, onto_first}
use Rattle.std.specs.Option.{option_map}
use Rattle.std.specs.Str.Pattern.{FindsTextPrefix}
use Rattle.std.proofs.lemmas.List.{map-append}
use Rattle.std.proofs.lemmas.List.Concat.{flat_map-append}
use Rattle.std.proofs.lemmas.List.Sums.{fold-append}
use Rattle.std.proofs.lemmas.List.Folds.{list_any-append}
use Rattle.std.proofs.Math.Bool.{or-false}
use Rattle.bib_queries.specs.Citations.{add_citation, cites_all, cites_at, cites_from}
use Rattle.bib_queries.specs.Elements.{set_name}
use Rattle.bib_queries.specs.Lines.{text_after_prefix}
use Rattle.bib_queries.specs.Needed.{is_listed}
use Rattle.bib_queries.specs.Collecting.{IsCollected, IsSeen}
use Rattle.bib_queries.specs.declared.citations.Citation.{Citation}
use Rattle.bib_queries.specs.declared.citations.Collected.{Collected}
use Rattle.bib_text.proofs.ListFacts.{begins, begins_not}

-- `strip_prefix` of std returns the text after the prefix
pub prefix_after : (prefix text : List ℕ) (r : Option (Bor (List ℕ)))
    → MatchOption r (FindsTextPrefix prefix text None)
    (λ x. (n : ℕ) × FindsTextPrefix prefix text (Some n) × (x.now ≡ drop n text) × (length x.now + n ≡ length text))
    → option_map (λ x. x.now) r ≡ text_after_prefix prefix text
prefix_after prefix text None h = sym (ap (λ b. cond b (Some (drop (length prefix) text)) None) (begins_not prefix text h))
prefix_after prefix text (Some x) h =
    ap Some (h.2 ∙ ap (λ k. drop k text) h.1.0)
    ∙ sym (ap (λ b. cond b (Some (drop (length prefix) text)) None) (begins prefix text (drop h.0 text) h.1.1))

-- a citation of a key that is cited already adds nothing
pub known_keys : (keys : List Citation) (c : Citation) → list_any (λ k. bytes_eq k.key c.key) keys ≡ true
    → fold add_citation keys (c ∷ []) ≡ keys
known_keys keys c known =
    ap (λ b. cond (bytes_eq c.key (codes "*") || b) keys (keys ++ c ∷ [])) known ∙ of (bytes_eq c.key (codes "*")) where
      of : (b : Bool) → cond (b || true) keys (keys ++ c ∷ []) ≡ keys
      of true = refl
      of false = refl

-- a citation of a new key other than `*` is appended
pub new_keys : (keys : List Citation) (c : Citation) → bytes_eq c.key (codes "*") ≡ false
    → list_any (λ k. bytes_eq k.key c.key) keys ≡ false → fold add_citation keys (c ∷ []) ≡ keys ++ c ∷ []
new_keys keys c other new = ap₂ (λ a b. cond (a || b) keys (keys ++ c ∷ [])) other new

-- a citation of a key other than `*` doesn't cite all entries
pub not_all : (all : Bool) (c : Citation) → bytes_eq c.key (codes "*") ≡ false → all ≡ (all || cites_all (c ∷ []))
not_all all c other = sym (or-false all) ∙ sym (ap (λ b. all || (b || false)) other)

or_assoc : (a b c : Bool) → (a || b) || c ≡ a || (b || c)
or_assoc true b c = refl
or_assoc false b c = refl

-- collecting citations and then further ones collects both lists in turn
pub collected_then : (old mid new : Collected) (xs ys : List Citation) → IsCollected old xs mid → IsCollected mid ys new
    → IsCollected old (xs ++ ys) new
collected_then old mid new xs ys first second = record {
  keys = second.keys ∙ ap (λ l. fold add_citation l ys) first.keys ∙ sym (fold-append add_citation old.keys.items xs ys);
  all =
      second.all ∙ ap (λ b. b || cites_all ys) first.all ∙ or_assoc old.all (cites_all xs) (cites_all ys)
      ∙ ap (λ b. old.all || b) (sym (list_any-append (λ c. bytes_eq c.key (codes "*")) xs ys));
  seen = second.seen;
}

-- collecting no citations changes nothing
pub nothing_collected : (c : Collected) → IsSeen c → IsCollected c [] c
nothing_collected c seen = record { keys = refl; all = sym (or-false c.all); seen = seen }

-- the choice of a value or an optional value has a value exactly if the value is chosen, or if the optional value is there
pub some_of : (b : Bool) {A : Type 0} (v : A) (o : Option A) → is_some (cond b (Some v) o) ≡ cond b true (is_some o)
some_of true v o = refl
some_of false v o = refl

-- ---- names of sets

-- the order of two alternatives doesn't matter
or_then : (a b : Bool) → a || b ≡ b || a
or_then true true = refl
or_then true false = refl
or_then false true = refl
or_then false false = refl

-- elements and one more define the set with a name exactly if the last one defines it, or one of the others does
pub listed_more : (pieces : List (Bor (List ℕ))) (piece : Bor (List ℕ)) (key : List ℕ) (some more : Bool)
    → more ≡ (is_listed (set_name piece.now) key || some)
    → some ≡ is_listed (flat_map set_name (map (λ p. p.now) pieces)) key
    → more ≡ is_listed (flat_map set_name (map (λ p. p.now) (pieces ++ piece ∷ []))) key
listed_more pieces piece key some more new old =
    let names : List (List ℕ) = flat_map set_name (map (λ p. p.now) pieces) in
    let last : List (List ℕ) = set_name piece.now in
    new ∙ or_then (is_listed last key) some ∙ ap (λ b. b || is_listed last key) old
    ∙ sym
    (ap (λ l. is_listed (flat_map set_name l) key) (map-append (λ p. p.now) pieces (piece ∷ []))
    ∙ ap (λ l. is_listed l key)
    (flat_map-append set_name (map (λ p. p.now) pieces) (piece.now ∷ []) ∙ ap (λ l. names ++ l) (append-nil last))
    ∙ list_any-append (λ one. bytes_eq one key) names last)

-- a name is among one name and further ones exactly if it is this one or among the further ones
pub one_listed : (name key : List ℕ) (more : Bool) → (is_listed (name ∷ []) key || more) ≡ cond (bytes_eq name key) true more
one_listed name key more = of (bytes_eq name key) where
  of : (b : Bool) → (b || false) || more ≡ cond b true more
  of true = refl
  of false = refl

-- ---- pieces one after another

-- the number of bytes of pieces, with one separator after each
abbrev pub past : List (List ℕ) → ℕ
past [] = 0
past (piece ∷ rest) = (length piece + 1) + past rest

pub past_push : (xs : List (List ℕ)) (x : List ℕ) → past (xs ++ x ∷ []) ≡ past xs + (length x + 1)
past_push [] x = omega arith
past_push (y ∷ xs) x = omega (arith, past_push xs x)

-- the citations of pieces grow by those of one more piece, at the offset after the others
pub cites_push : (cited : List ℕ → List (List ℕ)) (at : ℕ) (xs : List (List ℕ)) (x : List ℕ)
    → cites_from cited at (xs ++ x ∷ []) ≡ cites_from cited at xs ++ cites_at (at + past xs) (cited x)
cites_push cited at [] x = append-nil (cites_at at (cited x)) ∙ ap (λ n. cites_at n (cited x)) (omega arith)
cites_push cited at (y ∷ xs) x =
    ap (λ l. cites_at at (cited y) ++ l)
    (cites_push cited (at + (length y + 1)) xs x
    ∙ ap (λ n. cites_from cited (at + (length y + 1)) xs ++ cites_at n (cited x)) (omega arith))
    ∙ sym
    (append_assoc (cites_at at (cited y)) (cites_from cited (at + (length y + 1)) xs)
    (cites_at (at + ((length y + 1) + past xs)) (cited x)))

-- a byte in front of the first piece makes the count one greater
onto : (x : ℕ) (parts : List (List ℕ)) → 0 < length parts → past (onto_first x parts) ≡ past parts + 1
onto x [] some = absurd (omega (arith, some))
onto x (part ∷ parts) some = omega arith

parts_some : (p : ℕ → Bool) (xs : List ℕ) → 0 < length (slice_split p xs)
parts_some p [] = omega arith
parts_some p (x ∷ xs) = of (p x) where
  of : (b : Bool) → 0 < length (cond b ([] ∷ slice_split p xs) (onto_first x (slice_split p xs)))
  of true = omega arith
  of false = longer (slice_split p xs) where
    longer : (parts : List (List ℕ)) → 0 < length (onto_first x parts)
    longer [] = omega arith
    longer (part ∷ parts) = omega arith

-- the pieces of a text, with a separator after each, are one byte longer than the text
pub past_split : (p : ℕ → Bool) (xs : List ℕ) → past (slice_split p xs) ≡ length xs + 1
past_split p [] = omega arith
past_split p (x ∷ xs) = of (p x) (past_split p xs) where
  of : (b : Bool) → past (slice_split p xs) ≡ length xs + 1
      → past (cond b ([] ∷ slice_split p xs) (onto_first x (slice_split p xs))) ≡ suc (length xs) + 1
  of true rest = omega (arith, rest)
  of false rest = omega (arith, onto x (slice_split p xs) (parts_some p xs), rest)

pub past_take : (xs : List (List ℕ)) (n : ℕ) → past (take n xs) ≤ past xs
past_take [] zero = omega arith
past_take [] (suc n) = omega arith
past_take (x ∷ xs) zero = omega arith
past_take (x ∷ xs) (suc n) = omega (arith, past_take xs n)

-- each piece ends within the text
pub past_below : (p : ℕ → Bool) (text : List ℕ) (xs : List (List ℕ)) (x : List ℕ) (n : ℕ)
    → xs ++ x ∷ [] ≡ take n (slice_split p text) → past xs + length x ≤ length text
past_below p text xs x n is = omega (arith, past_push xs x, ap past is, past_take (slice_split p text) n, past_split p text)

-- collecting the citations of the first pieces and then those of the next one collects the citations of all of them
pub collected_next : (cited : List ℕ → List (List ℕ)) (old mid new : Collected) (xs : List (List ℕ)) (x : List ℕ)
    (at : ℕ) → at ≡ past xs → IsCollected old (cites_from cited 0 xs) mid
    → IsCollected mid (cites_at at (cited x)) new
    → IsCollected old (cites_from cited 0 (xs ++ x ∷ [])) new
collected_next cited old mid new xs x at is first second =
    subst (λ l. IsCollected old l new) (sym (cites_push cited 0 xs x)) (collected_then old mid new
    (cites_from cited 0 xs) (cites_at (0 + past xs) (cited x)) first
    (subst (λ n. IsCollected mid (cites_at n (cited x)) new) (omega (arith, is)) second))
