-- The laws of files that are upgraded.
use Rattle.std.proofs.Common.{codes}
use Rattle.face_rules.specs.InterfaceForms.{interface}
use Rattle.object_rules.specs.ImageForms.{parts_of_image, image_form}
use Rattle.object_rules.specs.ModuleForms.{module_form}
use Rattle.object_rules.specs.Parts.{parts_of}
use Rattle.upgraded_files.specs.Upgraded.{FilesAreUpgraded, FilesHaveVersions}
use Rattle.face_rules.proofs.Versions.{interface_grows}
use Rattle.object_rules.proofs.Versions.{module_grows, image_grows}
use Rattle.upgraded_files.proofs.Whole.{has_version, is_upgraded}

pub files_are_upgraded : FilesAreUpgraded
files_are_upgraded = record {
  interfaces = λ version i bytes h. is_upgraded (codes "MIF") interface version i bytes h (interface_grows version);
  objects = λ version o bytes h. record {
    file = is_upgraded (codes "MOB") module_form version (parts_of o) bytes h.file (module_grows version);
    whole = h.whole;
  };
  images = λ version i bytes h. record {
    file = is_upgraded (codes "MIM") image_form version (parts_of_image i) bytes h.file (image_grows version);
    whole = h.whole;
  };
}

pub files_have_versions : FilesHaveVersions
files_have_versions = record {
  interfaces = λ version i bytes h. has_version (codes "MIF") interface version i bytes h;
  objects = λ version o bytes h. has_version (codes "MOB") module_form version (parts_of o) bytes h.file;
  images = λ version i bytes h. has_version (codes "MIM") image_form version (parts_of_image i) bytes h.file;
}
