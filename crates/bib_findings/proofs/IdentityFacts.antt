-- Removing the prefix of a DOI, and comparing fields.
use Rattle.std.proofs.Common.{◌≡◌, ℕ, Bool, true, false, List, ◌∷◌, ◌+◌, ◌<◌, ◌||◌, length, get_or, drop, map, None, sym, ap, ◌∙◌, subst, arith, cond, suc, nat_eq}
use Rattle.std.specs.List.{list_any, starts_with}
use Rattle.std.specs.Str.Pattern.{FindsTextPrefix, StripsPrefix}
use Rattle.std.specs.Str.{IsCharBoundary}
use Rattle.std.proofs.Math.Seq.{drop-cons}
use Rattle.std.proofs.lemmas.Str.Pattern.{starts_text}
use denote.Ref.{Bor}
use Rattle.bib_findings.specs.Identities.{without_prefixes}

-- borrowed texts, such as prefixes and the names of fields
abbrev pub spelled : List (Bor (List ℕ)) → List (List ℕ)
spelled = map (λ p. p.now)

-- the prefixes from `index` on are the one at `index` and those after it
from_index : (prefixes : List (Bor (List ℕ))) (index : ℕ) (prefix : Bor (List ℕ)) → index < length prefixes
    → spelled (drop index prefixes) ≡ (get_or prefixes index prefix).now ∷ spelled (drop (index + 1) prefixes)
from_index prefixes index prefix within =
    ap spelled
    (drop-cons prefixes index prefix within
    ∙ ap (λ n. get_or prefixes index prefix ∷ drop n prefixes)
    (let same : suc index ≡ index + 1 = omega arith in same))

-- if the text begins with the prefix at `index` and with none before it, the result is the text after this prefix
pub prefix_here : (text : List ℕ) (prefixes : List (Bor (List ℕ))) (index : ℕ) (prefix : Bor (List ℕ)) (rest : List ℕ)
    → index < length prefixes
    → without_prefixes text (spelled prefixes) ≡ without_prefixes text (spelled (drop index prefixes))
    → StripsPrefix (FindsTextPrefix (get_or prefixes index prefix).now) text rest → rest ≡ without_prefixes text (spelled prefixes)
prefix_here text prefixes index prefix rest within before strips =
    let p : List ℕ = (get_or prefixes index prefix).now in
    let n : ℕ = strips.0 in
    let long : n ≡ length p = strips.1.0 in
    let begins : true ≡ starts_with nat_eq text p =
    starts_text true p text (n, strips.1, subst (IsCharBoundary text) (sym long) strips.1.2) in
    strips.2 ∙ ap (λ k. drop k text) long
    ∙ ap (λ b. cond b (drop (length p) text) (without_prefixes text (spelled (drop (index + 1) prefixes)))) begins
    ∙ sym (ap (without_prefixes text) (from_index prefixes index prefix within)) ∙ sym before

-- if the text begins neither with the prefix at `index` nor with one before it, the result is determined by the prefixes after it
pub prefix_gone : (text : List ℕ) (prefixes : List (Bor (List ℕ))) (index : ℕ) (prefix : Bor (List ℕ)) → index < length prefixes
    → without_prefixes text (spelled prefixes) ≡ without_prefixes text (spelled (drop index prefixes))
    → FindsTextPrefix (get_or prefixes index prefix).now text None
    → without_prefixes text (spelled prefixes) ≡ without_prefixes text (spelled (drop (index + 1) prefixes))
prefix_gone text prefixes index prefix within before lacks =
    let p : List ℕ = (get_or prefixes index prefix).now in
    let begins : false ≡ starts_with nat_eq text p = starts_text false p text lacks in
    before ∙ ap (without_prefixes text) (from_index prefixes index prefix within)
    ∙ sym (ap (λ b. cond b (drop (length p) text) (without_prefixes text (spelled (drop (index + 1) prefixes)))) begins)

-- if the text at `index` doesn't pass, one from `index` on passes exactly if one after it does
pub any_gone : (test : List ℕ → Bool) (texts : List (Bor (List ℕ))) (index : ℕ) (text : Bor (List ℕ)) (whole : Bool)
    → index < length texts → whole ≡ list_any test (spelled (drop index texts)) → test (get_or texts index text).now ≡ false
    → whole ≡ list_any test (spelled (drop (index + 1) texts))
any_gone test texts index text whole within so_far fails =
    so_far ∙ ap (list_any test) (from_index texts index text within)
    ∙ ap (λ b. b || list_any test (spelled (drop (index + 1) texts))) fails

-- if the text at `index` passes, one from `index` on passes
pub any_here : (test : List ℕ → Bool) (texts : List (Bor (List ℕ))) (index : ℕ) (text : Bor (List ℕ)) (whole : Bool)
    → index < length texts → whole ≡ list_any test (spelled (drop index texts)) → test (get_or texts index text).now ≡ true → whole ≡ true
any_here test texts index text whole within so_far passes =
    so_far ∙ ap (list_any test) (from_index texts index text within)
    ∙ ap (λ b. b || list_any test (spelled (drop (index + 1) texts))) passes
