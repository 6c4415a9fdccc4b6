pub mod ReciprocalLaws
