use Rattle.std.proofs.Common.{◌≡◌, ℕ, ◌-◌, Bor, List, ◌++◌, length, take, drop, Option, Result, Ok, Err, sym, ap, ◌∙◌, subst, append_assoc, take-append-drop}
use Rattle.std.proofs.Math.Seq.{take-append_seam}
use Rattle.std.proofs.lemmas.Bool.{false≢true}
use Rattle.std.proofs.lemmas.List.{take_rest}
use Rattle.std.specs.Io.KnownBytes.{Appends, Keeps, WriteAppends}
use Rattle.biblatex.specs.Writing.{IsRefusedWrite}
use Rattle.std.proofs.KnownBytes.{Appends-kept, Appends-trans}
use Rattle.biblatex.specs.PartlyWritten.{AppendsPart}
use Rattle.biblatex.proofs.sink.Output.write_once.Goals as goal
use Rattle.biblatex.proofs.sink.Output.write_once.Goals.{in-Ok, in-Err}

-- if the first bytes of a text were appended, a prefix of it was
part_of : (a b : Option (List ℕ)) (all done rest : List ℕ) → all ≡ done ++ rest → Appends a b done → AppendsPart a b all
part_of a b all done rest split appended =
    (length done, subst (Appends a b) (sym (ap (take (length done)) split ∙ take-append_seam done rest)) appended)

split_more : (all done rest : List ℕ) (n : ℕ) → all ≡ done ++ rest → all ≡ (done ++ take n rest) ++ drop n rest
split_more all done rest n split =
    split ∙ ap (λ l. done ++ l) (sym (take-append-drop n rest)) ∙ sym (append_assoc done (take n rest) (drop n rest))

moves_front : (all done rest : List ℕ) (n : ℕ) → all ≡ done ++ rest → all ≡ (done ++ take n rest) ++ take (length rest - n) (drop n rest)
moves_front all done rest n split = split_more all done rest n split ∙ ap (λ l. (done ++ take n rest) ++ l) (sym (take_rest rest n))

-- after a write with any result, a prefix of the text was appended
part_after : {E : Type 0} (a b c : Option (List ℕ)) (all done rest : List ℕ) (r : Result ℕ E) → all ≡ done ++ rest
    → Appends a b done → WriteAppends b c r rest → AppendsPart a c all
part_after a b c all done rest (Ok n) split appended more =
    part_of a c all (done ++ take n rest) (drop n rest) (split_more all done rest n split)
    (Appends-trans a b c done (take n rest) appended more)
part_after a b c all done rest (Err e) split appended kept = part_of a c all done rest split (Appends-kept a b c done appended kept)

pub returns-then-is_refusal-clause-part : goal.returns-then-is_refusal-clause-part
returns-then-is_refusal-clause-part g c =
    let (done, split, appended, same) = c.writes.invariant in
    part_after _ _ _ c.args.bytes.now done c.writes.rest.now c.write-written.result split appended c.write-written.ensures.bytes

pub writes-preserved : goal.writes-preserved
writes-preserved g c =
    let (done, split, appended, same) = c.writes.invariant in
    let rest = c.writes.rest.now in
    let start = g.W.Write.contents c.args.self.now.writer in
    let mid = g.W.Write.contents c.writes.self.writer in
    let end = g.W.Write.contents c.write-written.new.self.writer in
    let unrefused : IsRefusedWrite c.write-written.result → ⊥ = λ refused. false≢true (c.if-is_refusal.ensures.1 refused) in
    let kept' = c.write-written.ensures.same unrefused ∙ same in
    elim c.match-written.branch [
      | in-Ok w ↦
          let n = w.in-Ok.count in
          let moved = moves_front c.args.bytes.now done rest n split in
          let written : Appends mid end (take n rest) =
          subst (λ r. WriteAppends mid end r rest) w.in-Ok.is c.write-written.ensures.bytes in (
            done ++ take n rest,
            moved ∙ ap (λ (r : Bor (List ℕ)). (done ++ take n rest) ++ r.now) (sym w.rest-is),
            Appends-trans start mid end done (take n rest) appended written,
            kept',
          )
      | in-Err w ↦
          let kept : Keeps mid end = subst (λ r. WriteAppends mid end r rest) w.in-Err.is c.write-written.ensures.bytes in
          (done, split ∙ ap (λ (r : Bor (List ℕ)). done ++ r.now) (sym w.rest-is), Appends-kept start mid end done appended kept, kept')
    ]

pub returns-clause-part : goal.returns-clause-part
returns-clause-part g c =
    let (done, split, appended, same) = c.writes.invariant in
    let grown =
    subst (λ w. Appends (g.W.Write.contents c.args.self.now.writer) (g.W.Write.contents w) done)
    (sym c.refuse.ensures.writer) appended in
    part_of _ _ c.args.bytes.now done c.writes.rest.now split grown
