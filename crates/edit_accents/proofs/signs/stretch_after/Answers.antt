use Rattle.std.proofs.Common.{◌+◌, ◌≤◌, sym, ap, ◌∙◌, subst}
use Rattle.edit_accents.specs.Accents.{stretch_after}
use Rattle.edit_accents.specs.Balance.{open_count}
use Rattle.edit_accents.proofs.signs.stretch_after.Goals as goal

pub returns-in-Address : goal.returns-in-Address
returns-in-Address c = record {
  after = c.after_address.ensures.after c.args.rest.now
      ∙ ap (λ s. stretch_after s c.args.c c.args.rest.now) (sym c.in-Address.is);
  count = subst (λ s. open_count c.after_address.result ≤ open_count s + 1) (sym c.in-Address.is) c.after_address.ensures.count;
}
