use Rattle.elf_image.specs.Image.{code_in}
use Rattle.text_tests.proofs.tests.walking.image_is_walked.Goals as goal

pub graph_is_walked-requires : goal.graph_is_walked-requires
graph_is_walked-requires c = record {
  code = code_in c.args.image.now.pieces;
  entry = 0x10000;
  bytes = c.law_of_bytes.ensures;
  is = c.in-Ok.ensures.ok;
}
