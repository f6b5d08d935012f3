mod LineFacts
