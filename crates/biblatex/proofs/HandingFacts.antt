-- Passing texts to a sink one by one.
use Rattle.std.proofs.Common.{◌≡◌, ℕ, ◌+◌, ◌<◌, Bool, true, false, List, [], ◌∷◌, ◌++◌, length, take, drop, get_or, map, refl, sym, ap, ◌∙◌, subst, append_assoc}
use Rattle.std.specs.Prelude.{codes, ◌==◌}
use Rattle.std.proofs.lemmas.List.{drop_more, map-append, take-append-drop, take_more}
use Rattle.std.proofs.lemmas.Fn.{FoldsTo-push}
use Rattle.bib_entry.specs.declared.entry.Entry.{Entry}
use Rattle.biblatex.specs.HandedOver.{AreCutShort, AreSomeTaken, AreTaken, IsOneRefused, entry_texts}
use Rattle.biblatex.specs.Writing.{empty_line_unless}
use Rattle.biblatex.specs.declared.write.WriteError.{WriteError}
use Rattle.biblatex.specs.declared.write.WriteError.TheVariants.{Refused, OutOfMemory}
use Rattle.biblatex.proofs.WritingFacts.{first_taken, is_empty}

-- ---- the texts of entries

-- the text of an entry, given whether it is the first
abbrev pub text_of : (Entry → List ℕ) → Bool → Entry → List ℕ
text_of written is_first e = empty_line_unless is_first ++ (written e ++ codes "\n")

-- the texts of entries are those of the entries before one, its own text, and those of the entries after it
texts_around : (written : Entry → List ℕ) (before : List Entry) (e : Entry) (after : List Entry)
    → entry_texts written (before ++ e ∷ after)
    ≡ entry_texts written before ++ text_of written (is_empty before) e ∷ map (text_of written false) after
texts_around written [] e after = refl
texts_around written (x ∷ before) e after =
    ap (λ texts. text_of written true x ∷ texts) (map-append (text_of written false) before (e ∷ after))

-- the same for the entry at an index
pub texts_at : (written : Entry → List ℕ) (es : List Entry) (i : ℕ) (e : Entry) (first : Bool) → i < length es
    → e ≡ get_or es i e → first ≡ (i == 0)
    → entry_texts written es ≡ entry_texts written (take i es) ++ text_of written first e ∷ map (text_of written false) (drop (i + 1) es)
texts_at written es i e first within is flag =
    let cut : es ≡ take i es ++ e ∷ drop (i + 1) es =
    sym (take-append-drop i es)
    ∙ ap (λ left. take i es ++ left) (drop_more es i e within ∙ ap (λ x. x ∷ drop (i + 1) es) (sym is)) in
    ap (entry_texts written) cut ∙ texts_around written (take i es) e (drop (i + 1) es)
    ∙ ap (λ b. entry_texts written (take i es) ++ text_of written b e ∷ map (text_of written false) (drop (i + 1) es))
    (first_taken es i within ∙ sym flag)

-- the texts of the entries up to and including an index are those before the index, and the text of the entry at it
next_text : (written : Entry → List ℕ) (es : List Entry) (i : ℕ) (e : Entry) (first : Bool) → i < length es
    → e ≡ get_or es i e → first ≡ (i == 0)
    → entry_texts written (take (i + 1) es) ≡ entry_texts written (take i es) ++ text_of written first e ∷ []
next_text written es i e first within is flag =
    ap (entry_texts written) (take_more es i e within ∙ ap (λ x. take i es ++ x ∷ []) (sym is)) ∙ texts_around written (take i es) e []
    ∙ ap (λ b. entry_texts written (take i es) ++ text_of written b e ∷ []) (first_taken es i within ∙ sym flag)

module _ {K : Type 0} (hands_over : K → List ℕ → Bool → K → Type 0) where
  -- ---- texts that the sink took

  -- if the sink took the texts below an index and then the text at the index, it took the texts up to and including it
  pub next_taken : (written : Entry → List ℕ) (es : List Entry) (i : ℕ) (e : Entry) (first : Bool) (old mid new : K)
      → i < length es → e ≡ get_or es i e → first ≡ (i == 0)
      → AreTaken hands_over old (entry_texts written (take i es)) mid → AreTaken hands_over mid (text_of written first e ∷ []) new
      → AreTaken hands_over old (entry_texts written (take (i + 1) es)) new
  next_taken written es i e first old mid new within is flag taken next =
      let text = text_of written first e in
      subst (λ texts. AreTaken hands_over old texts new) (sym (next_text written es i e first within is flag))
      (FoldsTo-push (λ before text after. hands_over before text true after) old (entry_texts written (take i es)) mid
      text new taken (subst (hands_over mid text true) next.2 next.1))

  -- a sink that took two lists of texts one after the other took their concatenation
  taken_together : (a b c : K) (xs ys : List (List ℕ)) → AreTaken hands_over a xs b → AreTaken hands_over b ys c
      → AreTaken hands_over a (xs ++ ys) c
  taken_together a b c [] ys first second = subst (λ k. AreTaken hands_over k ys c) (sym first) second
  taken_together a b c (x ∷ xs) ys first second = (first.0, first.1, taken_together first.0 b c xs ys first.2 second)

  -- ---- a text that the sink did not take

  -- before its first text, a sink took none of the texts
  pub none_taken : (old : K) (text : List ℕ) → AreSomeTaken hands_over old (text ∷ []) old
  none_taken old text = record { before = []; text = text; after = []; parts = refl; taken = refl }

  -- a sink that refused the only text refused one of the texts
  pub one_refused : (old new : K) (text t : List ℕ) → t ≡ text → hands_over old t false new → IsOneRefused hands_over old (text ∷ []) new
  one_refused old new text t is refused = record {
    before = [];
    text = text;
    after = [];
    parts = refl;
    reached = old;
    taken = refl;
    refused = subst (λ x. hands_over old x false new) is refused;
  }

  -- splitting a part of a split list splits the list
  parts_of_all : (texts before after b a : List (List ℕ)) (text t : List ℕ) → texts ≡ before ++ text ∷ after
      → text ∷ [] ≡ b ++ t ∷ a → texts ≡ (before ++ b) ++ t ∷ (a ++ after)
  parts_of_all texts before after b a text t all one =
      all ∙ ap (λ xs. before ++ (xs ++ after)) one ∙ ap (λ xs. before ++ xs) (append_assoc b (t ∷ a) after)
      ∙ sym (append_assoc before b (t ∷ (a ++ after)))

  -- if the sink took all texts before one, and the calls ended early at that one, the calls for all texts ended early
  pub stopped_at : (e : WriteError) (old mid new : K) (texts before after : List (List ℕ)) (text : List ℕ) → texts ≡ before ++ text ∷ after
      → AreTaken hands_over old before mid → AreCutShort hands_over mid (text ∷ []) new e → AreCutShort hands_over old texts new e
  stopped_at Refused old mid new texts before after text all taken one = record {
    before = before ++ one.before;
    text = one.text;
    after = one.after ++ after;
    parts = parts_of_all texts before after one.before one.after text one.text all one.parts;
    reached = one.reached;
    taken = taken_together old mid one.reached before one.before taken one.taken;
    refused = one.refused;
  }
  stopped_at OutOfMemory old mid new texts before after text all taken one = record {
    before = before ++ one.before;
    text = one.text;
    after = one.after ++ after;
    parts = parts_of_all texts before after one.before one.after text one.text all one.parts;
    taken = taken_together old mid new before one.before taken one.taken;
  }
