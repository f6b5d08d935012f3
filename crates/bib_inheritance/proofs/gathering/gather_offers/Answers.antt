use Rattle.std.proofs.Common.{◌≡◌, ◌+◌, ◌<◌, [], ℕ, List, length, get_or, sym, ap, ◌∙◌, subst, inl, inr, option_map}
use Rattle.std.specs.Option.{option_copied}
use Rattle.std.proofs.lemmas.List.{get_or-map, length-map}
use denote.Ref.{Bor}
use Rattle.bib_chunks.specs.Styled.{styled}
use Rattle.bib_tables.specs.Requirements.{texts}
use Rattle.bib_inheritance.specs.EntryTexts.{texts_of_reference}
use Rattle.bib_inheritance.proofs.GatheredFacts.{IsGathered, gathered_none, gathered_skip, gathered_more}
use Rattle.bib_inheritance.proofs.gathering.gather_offers.Goals as goal
use Rattle.bib_inheritance.proofs.gathering.gather_offers.Goals.{in-Some+in_ok-insert, in_default}

abbrev no_name : Bor (List ℕ)
no_name = record { ref_ptr = (0, 0); now = [] }

name_at : (names : List (Bor (List ℕ))) (i : ℕ) → i < length names → (get_or names i no_name).now ≡ get_or (texts names) i []
name_at names i within = sym (get_or-map (λ (n : Bor (List ℕ)). n.now) names i no_name [] within)

inside : (names : List (Bor (List ℕ))) (i : ℕ) → i < length names → i < length (texts names)
inside names i within = subst (λ n. i < n) (sym (length-map names (λ (n : Bor (List ℕ)). n.now))) within

pub names-init : goal.names-init
names-init c = gathered_none (texts c.args.names.now) (texts_of_reference c.args.reference.now) c.args.gathered.now

pub names-preserved-then-is_kept_back : goal.names-preserved-then-is_kept_back
names-preserved-then-is_kept_back c =
    let names = c.args.names.now in
    let i = c.names.name-index in
    gathered_skip (texts names) i (texts_of_reference c.args.reference.now) (get_or names i no_name).now
    c.args.gathered.now c.names.gathered (inside names i c.names-test.true) (name_at names i c.names-test.true)
    (inl (sym c.is_kept_back.ensures ∙ c.if-is_kept_back.true)) c.names.invariant

pub names-preserved : goal.names-preserved
names-preserved c =
    let names = c.args.names.now in
    let i = c.names.name-index in
    let s = texts_of_reference c.args.reference.now in
    let n = (get_or names i no_name).now in
    elim c.match-offer.branch [
      | in-Some+in_ok-insert w ↦
          subst (IsGathered (texts names) (i + 1) s c.args.gathered.now) (sym w.gathered-is)
          (gathered_more (texts names) i s n w.in-Some.chunks c.args.gathered.now c.names.gathered w.insert.new.self
          (inside names i c.names-test.true) (name_at names i c.names-test.true)
          (sym c.is_kept_back.ensures ∙ c.if-is_kept_back.false)
          (sym c.offer.ensures ∙ ap (λ o. option_map styled (option_copied o)) w.in-Some.is)
          w.in_ok-insert.ensures.updates c.names.invariant)
      | in_default w ↦
          subst (IsGathered (texts names) (i + 1) s c.args.gathered.now) (sym w.gathered-is)
          (gathered_skip (texts names) i s n c.args.gathered.now c.names.gathered (inside names i c.names-test.true)
          (name_at names i c.names-test.true)
          (inr (sym c.offer.ensures ∙ ap (λ o. option_map styled (option_copied o)) w.in_default.is)) c.names.invariant)
    ]
