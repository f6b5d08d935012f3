-- Checking whether an entry is settled.
use Rattle.std.proofs.Common.{◌≡◌, ℕ, Bool, true, false, not, List, [], ◌∷◌, length, map, refl, sym, ap, ◌∙◌, subst, arith}
use Rattle.std.specs.Prelude.{◌↔◌, IsTrue, bytes_eq}
use Rattle.std.specs.Char.{to_ascii_lowercase, is_ascii_uppercase}
use Rattle.std.specs.List.{list_all, list_any, AllByRecursion}
use Rattle.std.proofs.lemmas.Bool.{and_parts, and_from, both_ways, not-true}
use Rattle.bib_text.specs.Places.{Place, place, CharAt, Run, Longest, AtEnd}
use Rattle.bib_text.proofs.PlaceFacts.{same_place, stops_at_end, runs_same, same_char, no_char_at_end, test_clash}
use Rattle.bib_syntax.specs.Characters.{is_id_start, is_id_continue}
use Rattle.bib_syntax.specs.Reading.{part}
use Rattle.bib_chunks.specs.declared.chunk.Chunk.{Chunk}
use Rattle.bib_text.specs.declared.spanned.Spanned.{Spanned}
use Rattle.biblatex.specs.Settled.{IsIdentifier, IsSettledField, IsSettledName, link_names}

-- a run stays in its text
pub run_text : {test : ℕ → Bool} {u v : Place} → Run test u v → v.text ≡ u.text
run_text Run.stop = refl
run_text (Run.step char passes rest) = run_text rest ∙ char.same

-- the longest run from a place ends at the end of the text exactly if the text from the place on is a run
pub whole_run : {test : ℕ → Bool} {u v : Place} (text : List ℕ) (b : Bool) → u.text ≡ text → Longest test u v
    → IsTrue b ↔ AtEnd v → IsTrue b ↔ Run test u (place text (length text))
whole_run {test} {u} {v} text b is longest done = (
  (λ yes.
      let same : v.text ≡ text = run_text longest.run ∙ is in
      let end : v.at ≡ length text = done.0 yes ∙ ap length same in
      subst (λ p. Run test u p) (same_place {u = v} {v = place text (length text)} same end) longest.run),
  (λ run.
      let here : v ≡ place text (length text) = runs_same longest.run longest.stops run (stops_at_end test refl) in
      done.1 (subst AtEnd (sym here) refl)),
)

-- a text whose first character begins an identifier is one exactly if its other characters continue it
pub identifier_whole : {second : Place} {c : ℕ} (text : List ℕ) (b : Bool) → CharAt (place text 0) c second
    → is_id_start c ≡ true → IsTrue b ↔ Run is_id_continue second (place text (length text))
    → IsTrue b ↔ IsIdentifier text
identifier_whole {second} {c} text b here starts run = (
  (λ yes. (
    part (place text 0) (place text (length text)),
    record { second = second; first = c; here = here; starts = starts; rest = run.0 yes; reading = refl },
  )),
  (λ is. run.1 (subst (λ p. Run is_id_continue p (place text (length text))) (same_char is.1.here here).1 is.1.rest)),
)

-- a text whose first character doesn't begin an identifier is no identifier
pub no_identifier : {second : Place} {c : ℕ} {text : List ℕ} → CharAt (place text 0) c second → is_id_start c ≡ false
    → IsIdentifier text → ⊥
no_identifier here fails is = test_clash _ (ap is_id_start (sym (same_char is.1.here here).0) ∙ is.1.starts) fails

-- the empty text is no identifier
pub no_empty_identifier : {text : List ℕ} → AtEnd (place text 0) → IsIdentifier text → ⊥
no_empty_identifier end is = no_char_at_end end is.1.here

small_byte : (b : ℕ)
    → (not (is_ascii_uppercase b) ≡ true → to_ascii_lowercase b ≡ b)
    × (to_ascii_lowercase b ≡ b → not (is_ascii_uppercase b) ≡ true)
small_byte b = (λ low. grind arith, λ same. grind arith)

first_same : {x y : ℕ} {xs ys : List ℕ} → x ∷ xs ≡ y ∷ ys → (x ≡ y) × (xs ≡ ys)
first_same same = (cc, cc)

-- a text has no uppercase ASCII letters exactly if it equals its lowercase form
pub small_text : (bytes : List ℕ)
    → (list_all (λ b. not (is_ascii_uppercase b)) bytes ≡ true → map to_ascii_lowercase bytes ≡ bytes)
    × (map to_ascii_lowercase bytes ≡ bytes → list_all (λ b. not (is_ascii_uppercase b)) bytes ≡ true)
small_text [] = (λ all. refl, λ same. refl)
small_text (b ∷ bytes) = (
  (λ all.
      let parts = and_parts (not (is_ascii_uppercase b)) (list_all (λ x. not (is_ascii_uppercase x)) bytes) all in
      ap (λ x. x ∷ map to_ascii_lowercase bytes) ((small_byte b).0 parts.0) ∙ ap (λ xs. b ∷ xs) ((small_text bytes).0 parts.1)),
  (λ same.
      let both = first_same same in
      and_from (not (is_ascii_uppercase b)) (list_all (λ x. not (is_ascii_uppercase x)) bytes) ((small_byte b).1 both.0)
      ((small_text bytes).1 both.1)),
)

-- `false` is equivalent to any property that doesn't hold
pub never : {P : Type 0} → (P → ⊥) → IsTrue false ↔ P
never none = ((λ yes. absurd (both_ways false refl yes)), (λ holds. absurd (none holds)))

-- an identifier without uppercase ASCII letters is a settled name exactly if it isn't one of `link_names`
pub settled_name : (name : List ℕ) (linked : Bool) → IsIdentifier name
    → list_all (λ b. not (is_ascii_uppercase b)) name ≡ true → linked ≡ list_any (bytes_eq name) link_names
    → IsTrue (not linked) ↔ IsSettledName name
settled_name name linked identifier small is = (
  (λ yes. record { identifier = identifier; small = (small_text name).0 small; apart = sym is ∙ not-true linked yes }),
  (λ settled. ap not (is ∙ settled.apart)),
)

-- if `P` is equivalent to `Q` and all fields being settled, the first field can be left out if it is settled
pub fields_after : {P Q : Type 0} {f : List ℕ × List (Spanned Chunk)} {fs rest : List (List ℕ × List (Spanned Chunk))}
    → P ↔ (Q × AllByRecursion IsSettledField fs) → fs ≡ f ∷ rest → IsSettledField f
    → P ↔ (Q × AllByRecursion IsSettledField rest)
fields_after {P} {Q} {f} {fs} {rest} before is settled =
    let whole : P ↔ (Q × AllByRecursion IsSettledField (f ∷ rest)) = subst (λ xs. P ↔ (Q × AllByRecursion IsSettledField xs)) is before in (
      (λ p. let both = whole.0 p in (both.0, both.1.1)),
      (λ both. whole.1 (both.0, (settled, both.1))),
    )

-- if `P` implies that all fields are settled, but the first isn't, `P` doesn't hold
pub field_not : {P Q : Type 0} {f : List ℕ × List (Spanned Chunk)} {fs rest : List (List ℕ × List (Spanned Chunk))}
    → P ↔ (Q × AllByRecursion IsSettledField fs) → fs ≡ f ∷ rest → (IsSettledField f → ⊥) → P → ⊥
field_not {P} {Q} {f} {fs} {rest} before is unsettled p =
    let whole : P ↔ (Q × AllByRecursion IsSettledField (f ∷ rest)) = subst (λ xs. P ↔ (Q × AllByRecursion IsSettledField xs)) is before in
    unsettled (whole.0 p).1.0
