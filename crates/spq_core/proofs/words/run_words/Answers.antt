use Rattle.std.proofs.Common.{inl}
use Rattle.spq_core.proofs.words.run_words.Goals as goal

pub returns-in-Ok-clause-run : goal.returns-in-Ok-clause-run
returns-in-Ok-clause-run g c = inl (record {
  command = c.in-Ok.command;
  command_line = c.in-Ok.ensures.ok;
  run = c.run_command.ensures.ran.run;
  alone = c.run_command.ensures.alone;
  unread = c.run_command.ensures.ran.unread;
  answerable = c.run_command.ensures.answerable;
})
