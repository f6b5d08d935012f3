use Rattle.std.proofs.lemmas.Grind.{common_steps}
use Rattle.std.proofs.Common.{[], ◌∷◌, ◌++◌, length, take, sym, ap, ◌∙◌, append_assoc, arith}
use Rattle.std.proofs.Math.Seq.{take-append_seam}
use Rattle.std.proofs.lemmas.Result.{err_from_is_err_and}
use Rattle.std.specs.FinMap.{insert}
use Rattle.std.specs.Vec.Iter.{into_iter_items}
use Rattle.bib_collections.specs.Names.{with_claims, claims_for}
use Rattle.bib_collections.proofs.NamesFacts.{claimed_next}
use Rattle.bib_collections.proofs.claims.Claims.claim_all.Goals as goal

pub names-preserved : goal.names-preserved
names-preserved c =
    let so_far = c.names.invariant.claims in
    let name = c.in-Some.name ∷ [] in
    record {
      can_next = tt;
      is_finite = tt;
      claims = (
        so_far.0 ++ name,
        so_far.1 ∙ ap (λ l. so_far.0 ++ l) c.in-Some.ensures.steps.0 ∙ sym (append_assoc so_far.0 name (into_iter_items c.next.new.self)),
        c.in_ok-claim.ensures.claimed ∙ ap (λ m. insert m c.in-Some.name c.args.index) so_far.2
            ∙ sym (claimed_next c.args.self.now c.args.index so_far.0 c.in-Some.name),
      );
    }

pub returns-in_err-claim-clause-refused : goal.returns-in_err-claim-clause-refused
returns-in_err-claim-clause-refused c =
    let so_far = c.names.invariant.claims in
    let p = err_from_is_err_and c.from_residual.result c.from_residual.ensures.1 in
    rw (p.1) (
      length so_far.0,
      c.in_err-claim.ensures.refused ∙ so_far.2
          ∙ ap (λ l. with_claims c.args.self.now (claims_for l c.args.index))
          (sym (take-append_seam so_far.0 (into_iter_items c.names.name-iterator))
          ∙ ap (λ l. take (length so_far.0) l) (sym so_far.1)),
    )

pub returns-clause-claimed : goal.returns-clause-claimed
returns-clause-claimed c = grind (arith, common_steps)
