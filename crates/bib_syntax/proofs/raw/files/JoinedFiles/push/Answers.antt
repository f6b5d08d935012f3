use Rattle.std.proofs.Common.{arith, ◌≡◌, ◌∙◌, ◌+◌, ◌++◌, ◌∷◌, [], ap, sym, subst, append_assoc, length, length-append}
use Rattle.std.specs.String.{string_bytes}
use Rattle.bib_syntax.specs.Files.{AreFiles}
use Rattle.bib_syntax.proofs.FilesFacts.{files_longer, one_more}
use Rattle.bib_syntax.proofs.raw.files.JoinedFiles.push.Goals as goal

pub invariant_of-self-in_err-push_str-2 : goal.invariant_of-self-in_err-push_str-2
invariant_of-self-in_err-push_str-2 c =
    subst (λ t. AreFiles t 0 c.self.inside.ends.items) (sym (c.in_err-push_str-2.ensures.bytes ∙ c.in_ok-push_str.ensures.bytes))
    (files_longer (string_bytes c.self.inside.text) c.args.file.now 0 c.self.inside.ends.items c.self.invariant)

pub invariant_of-self-in_err-push : goal.invariant_of-self-in_err-push
invariant_of-self-in_err-push c =
    let text = string_bytes c.self.inside.text in
    let bytes : string_bytes c.push_str-2.new.self ≡ text ++ (c.args.file.now ++ 37 ∷ 10 ∷ []) =
    c.in_ok-push_str-2.ensures.bytes ∙ ap (λ t. t ++ 37 ∷ 10 ∷ []) c.in_ok-push_str.ensures.bytes
    ∙ append_assoc text c.args.file.now (37 ∷ 10 ∷ []) in
    subst (AreFiles (string_bytes c.push_str-2.new.self) 0) (sym c.in_err-push.ensures.items)
    (subst (λ t. AreFiles t 0 c.self.inside.ends.items) (sym bytes)
    (files_longer text (c.args.file.now ++ 37 ∷ 10 ∷ []) 0 c.self.inside.ends.items c.self.invariant))

pub invariant_of-self-2 : goal.invariant_of-self-2
invariant_of-self-2 c =
    let text = string_bytes c.self.inside.text in
    let bytes : string_bytes c.push_str-2.new.self ≡ text ++ (c.args.file.now ++ 37 ∷ 10 ∷ []) =
    c.in_ok-push_str-2.ensures.bytes ∙ ap (λ t. t ++ 37 ∷ 10 ∷ []) c.in_ok-push_str.ensures.bytes
    ∙ append_assoc text c.args.file.now (37 ∷ 10 ∷ []) in
    let end : length c.as_str-end.result.now ≡ length text + length c.args.file.now =
    ap length (c.as_str-end.ensures.value ∙ c.in_ok-push_str.ensures.bytes) ∙ length-append text c.args.file.now in
    subst (AreFiles (string_bytes c.push_str-2.new.self) 0)
    (sym (c.in_ok-push.ensures.items ∙ ap (λ n. c.self.inside.ends.items ++ n ∷ []) end))
    (subst (λ t. AreFiles t 0 (c.self.inside.ends.items ++ (length text + length c.args.file.now) ∷ [])) (sym bytes)
    (one_more text c.args.file.now 0 c.self.inside.ends.items (omega arith) c.self.invariant))
