use Rattle.std.proofs.Common.{◌≡◌, ◌+◌, ◌-◌, ◌||◌, ◌∷◌, false, suc, drop, get_or, ap, sym, ◌∙◌, arith}
use Rattle.std.proofs.Math.Seq.{drop-cons}
use Rattle.bib_text.proofs.ListFacts.{take_to_end}
use Rattle.bibkit_core.specs.Encodings.{begins_beyond_ascii, has_run_beyond_ascii}
use Rattle.bibkit_core.proofs.encodings.has_run_beyond_ascii.Goals as goal

pub bytes-preserved : goal.bytes-preserved
bytes-preserved c =
    let bytes = c.args.bytes.now in
    let i = c.bytes.index in
    let rest = drop (i + 1) bytes in
    let all = take_to_end bytes i in
    let next : suc i ≡ i + 1 = omega arith in
    let cut : drop i bytes ≡ get_or bytes i 0 ∷ rest =
    drop-cons bytes i 0 c.bytes-test.true ∙ ap (λ n. get_or bytes i 0 ∷ drop n bytes) next in
    let isnt_here : begins_beyond_ascii (get_or bytes i 0 ∷ rest) ≡ false =
    ap begins_beyond_ascii (sym (all ∙ cut)) ∙ sym c.begins_beyond_ascii.ensures ∙ c.if-begins_beyond_ascii.false in
    sym (ap has_run_beyond_ascii cut ∙ ap (λ b. b || has_run_beyond_ascii rest) isnt_here) ∙ c.bytes.invariant
