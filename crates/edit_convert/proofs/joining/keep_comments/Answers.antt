use Rattle.std.proofs.Common.{◌+◌, ◌-◌, Bool, List, length, drop, take, map, ◌∙◌, ap, arith}
use Rattle.std.proofs.lemmas.List.{length-drop, take_all}
use Rattle.bib_syntax.specs.declared.raw.Pair.{Pair}
use Rattle.std.specs.Prelude.{◌&&◌}
use Rattle.bib_syntax.specs.Views.{field_of}
use Rattle.edit_convert.specs.Conversions.{keep_comments}
use Rattle.edit_convert.proofs.FollowingFacts.{goes_step}
use Rattle.edit_convert.proofs.joining.keep_comments.Goals as goal

pub fields-preserved : goal.fields-preserved
fields-preserved c =
    let all : Bool = keep_comments c.args.text.now (map field_of c.args.fields.now) in
    let rest : Bool = keep_comments c.args.text.now (map field_of (drop (c.fields.at + 1) c.args.fields.now)) in
    let left : List Pair = drop (c.fields.at + 1) c.args.fields.now in
    let following : List Pair = take (length c.args.fields.now - (c.fields.at + 1)) left in
    goes_step field_of c.args.fields.now c.fields.at c.index-fields-at.result c.fields-test.true c.index-fields-at.is
    c.args.text.now following c.keeps_comments.result all
    (take_all (length c.args.fields.now - (c.fields.at + 1)) left
    (omega (arith, length-drop (c.fields.at + 1) c.args.fields.now))) c.keeps_comments.ensures c.fields.invariant
    ∙ ap (λ b. b && rest) c.if-not-keeps_comments.false
