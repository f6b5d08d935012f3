use Rattle.std.proofs.Common.{ap, refl}
use Rattle.bibkit_commands.specs.Commands.{editing_command_named}
use Rattle.bibkit_commands.specs.Commands.EditCommand.{add_command, edit_command, recode_command, rekey_command, remove_command}
use Rattle.bibkit_commands.specs.Commands.EditCommand.{rename_command, set_command, strings_command, unset_command}
use Rattle.bibkit_commands.proofs.EditsAskedFacts.{edits_as, edits_by, named_add}
use Rattle.bibkit_commands.proofs.edit_arguments.edits_of.Goals as goal

pub returns-in-set : goal.returns-in-set
unfolding editing_command_named
returns-in-set c = edits_by set_command c.args.name.now _ _ (ap editing_command_named c.in-set.is) c.set_edits.ensures

pub returns-in-unset : goal.returns-in-unset
unfolding editing_command_named
returns-in-unset c = edits_by unset_command c.args.name.now _ _ (ap editing_command_named c.in-unset.is) c.unset_edits.ensures

pub returns-in-remove : goal.returns-in-remove
unfolding editing_command_named
returns-in-remove c = edits_by remove_command c.args.name.now _ _ (ap editing_command_named c.in-remove.is) c.removal_edits.ensures

pub returns-in-strings : goal.returns-in-strings
unfolding editing_command_named
returns-in-strings c = edits_by strings_command c.args.name.now _ _ (ap editing_command_named c.in-strings.is) c.strings_edits.ensures

pub returns-in-edit : goal.returns-in-edit
unfolding editing_command_named
returns-in-edit c = edits_by edit_command c.args.name.now _ _ (ap editing_command_named c.in-edit.is) c.selected_edits.ensures

pub returns-in-rekey : goal.returns-in-rekey
unfolding editing_command_named
returns-in-rekey c = edits_as rekey_command c.args.name.now _ _ (ap editing_command_named c.in-rekey.is) c.rekeying.ensures

pub returns-in-recode : goal.returns-in-recode
unfolding editing_command_named
returns-in-recode c = edits_as recode_command c.args.name.now _ _ (ap editing_command_named c.in-recode.is) c.recoding.ensures

pub returns-in-rename : goal.returns-in-rename
unfolding editing_command_named
returns-in-rename c = edits_by rename_command c.args.name.now _ _ (ap editing_command_named c.in-rename.is) c.rename_edits.ensures

pub returns-in_default : goal.returns-in_default
returns-in_default c =
    let isnt = c.in_default in
    edits_as add_command c.args.name.now _ _
    (named_add c.args.name.now (
      isnt.not-set,
      (
        isnt.not-unset,
        (
          isnt.not-remove,
          (
            isnt.not-strings,
            (
              isnt.not-edit,
              (
                isnt.not-rekey,
                (isnt.not-recode, (isnt.not-rename, tt)),
              ),
            ),
          ),
        ),
      ),
    ))
    refl
