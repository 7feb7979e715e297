use Rattle.path_walk.proofs.linked.law_of_walks.Goals as goal

pub returns : goal.returns
returns c = λ name.
    let law = c.law_of_groups.ensures in
    let some = c.requires.functions in
    let main = law.members some.code some.entry c.args.group.now name some.bytes some.are c.requires.group in
    record {
      code = some.code;
      bytes = some.bytes;
      main = main.0;
      members = main.2;
      reached = law.reached some.code some.entry c.args.group.now some.bytes some.are c.requires.group;
      set = law.set some.code some.entry c.args.group.now some.bytes some.are c.requires.group;
      instructions = law.instructions some.code some.entry c.args.group.now some.bytes some.are c.requires.group;
      calls = law.calls some.code some.entry c.args.group.now some.are c.requires.group;
      few = law.few some.code some.entry c.args.group.now name some.bytes some.are c.requires.group;
    }
