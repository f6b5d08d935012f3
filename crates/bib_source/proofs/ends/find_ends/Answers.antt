use Rattle.std.proofs.Common.{◌-◌, drop, length, take}
use Rattle.bib_text.proofs.ListFacts.{take_to_end}
use Rattle.bib_source.proofs.EndFacts.{ends_of}
use Rattle.bib_source.proofs.ends.find_ends.Goals as goal

pub returns : goal.returns
returns c =
    let old = c.args.old.now in
    let new = c.args.new.now in
    let start = c.common_start-start.result in
    let old_rest = take (length old - start) (drop start old) in
    let new_rest = take (length new - start) (drop start new) in
    let i = length old_rest - c.common_end-end.result in
    ends_of old new old_rest new_rest (take (length old_rest - i) (drop i old_rest)) start i (length new_rest - c.common_end-end.result)
    (take_to_end old start) (take_to_end new start) (take_to_end old_rest i)
    c.common_start-start.ensures.same c.common_start-start.ensures.longest c.common_end-end.ensures.same c.common_end-end.ensures.longest
