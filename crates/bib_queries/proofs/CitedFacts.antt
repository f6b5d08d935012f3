-- The marks on cited nodes.
use Rattle.std.proofs.Common.{◌≡◌, ℕ, Bool, true, false, List, length, get_or, replicate, sym, ap, subst, ◌∙◌, arith, ◌<◌}
use Rattle.std.proofs.lemmas.Bool.{false≢true}
use Rattle.std.proofs.lemmas.List.{get_or-replicate, length-replicate}
use Rattle.bib_queries.specs.Needed.{AreMarks, HasName, IsMarked, IsNeeded, Node, RefersTo, is_listed}
use Rattle.bib_queries.specs.Needed.IsNeeded.{asked, reached}
use Rattle.bib_queries.proofs.MarkFacts.{marked_below}
use Rattle.bib_queries.proofs.SearchFacts.{named_below}
use Rattle.bib_queries.specs.Cited.{IsCited}
use Rattle.bib_queries.specs.Cited.IsCited.{any, needed}

not_all : (names : List (List ℕ)) (all : Bool) (nodes : List Node) (index : ℕ) → all ≡ false
    → IsCited names all nodes index → IsNeeded names nodes index
not_all names all nodes index none (any is) = absurd (false≢true (sym none ∙ is))
not_all names all nodes index none (needed h) = h

-- if `all` is false, marks on the needed nodes are marks on the cited ones
pub needed_marks : (names : List (List ℕ)) (all : Bool) (nodes : List Node) (n : ℕ) (marks : List Bool) → all ≡ false
    → AreMarks (IsNeeded names nodes) n marks → AreMarks (IsCited names all nodes) n marks
needed_marks names all nodes n marks none h = record {
  same_length = h.same_length;
  each = λ index below. (
    λ mark. needed ((h.each index below).0 mark),
    λ cited. (h.each index below).1 (not_all names all nodes index none cited),
  );
}

-- if `all` is true, marks on all nodes are marks on the cited ones
pub all_marks : (names : List (List ℕ)) (all : Bool) (nodes : List Node) (n : ℕ) (marks : List Bool) → all ≡ true
    → marks ≡ replicate n true → AreMarks (IsCited names all nodes) n marks
all_marks names all nodes n marks is made = record {
  same_length = ap length made ∙ length-replicate n true;
  each = λ index below. (λ mark. any is, λ cited. ap (λ l. get_or l index false) made ∙ get_or-replicate n index true false below);
}

-- marks on the nodes that are needed for some names and nodes are those for equal names and nodes
pub same_marks : (names names' : List (List ℕ)) (nodes nodes' : List Node) (n n' : ℕ) (marks : List Bool)
    → names ≡ names' → nodes ≡ nodes' → n ≡ n' → AreMarks (IsNeeded names nodes) n marks
    → AreMarks (IsNeeded names' nodes') n' marks
same_marks names names' nodes nodes' n n' marks alike things long h =
    subst (λ l. AreMarks (IsNeeded l nodes') n' marks) alike
    (subst (λ l. AreMarks (IsNeeded names l) n' marks) things
    (subst (λ k. AreMarks (IsNeeded names nodes) k marks) long h))

-- a node that a cited node refers to is cited
cited_more : (names : List (List ℕ)) (all : Bool) (nodes : List Node) (first second : ℕ) (name : List ℕ)
    → RefersTo nodes first name → HasName nodes second name → IsCited names all nodes first
    → IsCited names all nodes second
cited_more names all nodes first second name refers named (any is) = any is
cited_more names all nodes first second name refers named (needed h) = needed (reached name h refers named)

-- if marks are on the cited nodes, a node that a marked node refers to has a mark
pub cited_marked : (names : List (List ℕ)) (all : Bool) (nodes : List Node) (n : ℕ) (marks : List Bool)
    (first second : ℕ) (name : List ℕ) → length nodes ≡ n → AreMarks (IsCited names all nodes) n marks
    → IsMarked marks first → RefersTo nodes first name → HasName nodes second name → IsMarked marks second
cited_marked names all nodes n marks first second name long h mark refers named =
    let here : first < n = omega (arith, marked_below marks first mark, h.same_length) in
    let there : second < n = omega (arith, named_below nodes second name named, long) in
    (h.each second there).1 (cited_more names all nodes first second name refers named ((h.each first here).0 mark))

-- if marks are on the cited nodes, a node with a requested name has a mark
pub asked_marked : (names : List (List ℕ)) (all : Bool) (nodes : List Node) (n : ℕ) (marks : List Bool) (index : ℕ) (name : List ℕ)
    → length nodes ≡ n → AreMarks (IsCited names all nodes) n marks
    → is_listed names name ≡ true → HasName nodes index name → IsMarked marks index
asked_marked names all nodes n marks index name long h listed named =
    let there : index < n = omega (arith, named_below nodes index name named, long) in
    (h.each index there).1 (needed (asked name listed named))
