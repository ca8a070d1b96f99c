-- Which refusal a text has that is no document.
use Rattle.ht_toml.specs.declared.documents.DocumentFault.{DocumentFault}
use Rattle.ht_toml.specs.declared.documents.DocumentFault.TheVariants as fault
use Rattle.ht_models.specs.declared.refusal.ModelsRefusal.{ModelsRefusal}
use Rattle.ht_models.specs.declared.refusal.ModelsRefusal.TheVariants as refusal

abbrev pub refusal_of : DocumentFault → ModelsRefusal
refusal_of fault.Syntax = refusal.Syntax
refusal_of fault.Memory = refusal.Memory
